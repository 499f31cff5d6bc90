use Rattle.gateway_kit.proofs.Drafting.{drafts_none}
use Rattle.gateway_kit.proofs.draft.Draft.new.Goals as goal

pub returns : goal.returns
returns c = rw (c.new.ensures.items, c.new-2.ensures.items) drafts_none
