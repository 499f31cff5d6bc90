use Rattle.gateway_kit.proofs.MergeDrafts.{drafts_nothing}
use Rattle.gateway_kit.proofs.merge_draft.MergeDraft.new.Goals as goal

pub returns : goal.returns
returns c = rw (c.new.ensures.items, c.new-2.ensures.items) drafts_nothing
