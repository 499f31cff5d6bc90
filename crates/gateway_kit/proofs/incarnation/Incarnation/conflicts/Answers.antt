use Rattle.std.proofs.Common.{List, map, sym, ap, ◌∙◌}
use Rattle.std.specs.FinMap.{entries-from_sorted}
use Rattle.gateway_kit.specs.Changing.{KeyedCell}
use Rattle.gateway_kit.specs.Keys.{item_cmp, keyed_cell_of}
use Rattle.gateway_kit.specs.IncarnationState.{IncarnationState}
use Rattle.gateway_kit.specs.Tallies.{conflicts_in, incarnation_conflicts}
use Rattle.gateway_kit.proofs.Entries.{as_T}
use Rattle.gateway_kit.proofs.incarnation.Incarnation.conflicts.Goals as goal

pub returns : goal.returns
returns c =
    c.self.invariant.tallied.conflicts
    ∙ ap (λ (es : List KeyedCell). conflicts_in es) (sym (entries-from_sorted item_cmp (map keyed_cell_of c.self.inside.items.items) (as_T c.self.invariant.sorted)))
    ∙ ap (λ (p : IncarnationState). incarnation_conflicts p) c.self.view_is
