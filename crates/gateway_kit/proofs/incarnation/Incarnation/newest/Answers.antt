use Rattle.std.proofs.Common.{◌∙◌, ap, sym, map}
use Rattle.std.specs.FinMap.{entries, entries-from_sorted}
use Rattle.gateway_kit.specs.Keys.{item_cmp, keyed_cell_of}
use Rattle.gateway_kit.specs.IncarnationState.{IncarnationState}
use Rattle.gateway_kit.specs.Times.{latest}
use Rattle.gateway_kit.proofs.Entries.{as_T}
use Rattle.gateway_kit.proofs.incarnation.Incarnation.newest.Goals as goal

pub returns : goal.returns
returns c =
    c.self.invariant.tallied.newest
    ∙ ap latest (sym (entries-from_sorted item_cmp (map keyed_cell_of c.self.inside.items.items) (as_T c.self.invariant.sorted)))
    ∙ ap (λ (p : IncarnationState). latest (entries p.cells)) c.self.view_is
