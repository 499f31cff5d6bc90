use Rattle.fleet_kit.proofs.Posting.{learns_nothing, sends}
use Rattle.fleet_kit.proofs.posts.is_sent.Goals as goal

pub send_as-requires-clause-rule : goal.send_as-requires-clause-rule
send_as-requires-clause-rule g c = (sends _ _ _ _, learns_nothing _ _)
