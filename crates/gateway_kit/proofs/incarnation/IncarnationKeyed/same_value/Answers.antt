use Rattle.std.proofs.Common.{sym, ap, ◌∙◌}
use Rattle.std.specs.FinMap.{entries, same_entries_map}
use Rattle.gateway_kit.specs.IncarnationState.{Cells}
use Rattle.gateway_kit.proofs.incarnation.IncarnationKeyed.same_value.Goals as goal

pub returns : goal.returns
returns c = (
  λ yes. same_entries_map c.args.self.now.cells c.args.other.now.cells (sym c.items.ensures.entries ∙ c.all_same.ensures.0 yes ∙ c.items-2.ensures.entries),
  λ same. c.all_same.ensures.1 (c.items.ensures.entries ∙ ap (λ (cs : Cells). entries cs) same ∙ sym c.items-2.ensures.entries),
)
