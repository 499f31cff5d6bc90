use Rattle.std.proofs.Common.{take}
use Rattle.gateway_kit.specs.Merging.{MergeDrafts}
use Rattle.gateway_kit.proofs.merge_draft.MergeDraft.of.Given as goal

-- the incarnations so far are in the draft
abbrev pub invariant-loop-index : goal.invariant-loop-index
invariant-loop-index l = MergeDrafts l.mine.items (take l.index l.theirs.items) l.draft.updates.items l.draft.fresh.items l.draft.more l.draft.changed
