use Rattle.std.proofs.Common.{take}
use Rattle.std.specs.FinMap.{entries}
use Rattle.gateway_kit.specs.Changing.{Drafts}
use Rattle.gateway_kit.proofs.incarnation.Incarnation.changes_with.Given as goal

-- the items so far are in the draft
abbrev pub invariant-loop-item : goal.invariant-loop-item
invariant-loop-item l = Drafts (entries l.self.cells) (take l.item-index (entries l.other.cells)) l.draft.updates.items l.draft.fresh.items
