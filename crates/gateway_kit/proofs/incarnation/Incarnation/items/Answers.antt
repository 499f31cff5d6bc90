use Rattle.std.proofs.Common.{◌∙◌, ap, sym, map}
use Rattle.std.specs.FinMap.{entries, entries-from_sorted}
use Rattle.gateway_kit.specs.Keys.{item_cmp, keyed_cell_of}
use Rattle.gateway_kit.specs.IncarnationState.{IncarnationState}
use Rattle.gateway_kit.proofs.Entries.{as_T}
use Rattle.gateway_kit.proofs.incarnation.Incarnation.items.Goals as goal

pub returns-clause-entries : goal.returns-clause-entries
returns-clause-entries c =
    ap (map keyed_cell_of) c.as_slice.ensures.value
    ∙ sym (entries-from_sorted item_cmp (map keyed_cell_of c.self.inside.items.items) (as_T c.self.invariant.sorted))
    ∙ ap (λ (p : IncarnationState). entries p.cells) c.self.view_is
