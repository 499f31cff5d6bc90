use Rattle.std.proofs.Common.{◌≡◌, []}
use Rattle.crossbeam_channel.specs.Claims.{view, IsSeatAt}
use Rattle.crossbeam_channel.specs.Ends.{sends_on}
use Rattle.fleet_kit.proofs.Posting.{AreBelow, UnsentBelow}
use Rattle.fleet_kit.proofs.posts.post_all.Given as goal

abbrev pub invariant-loop-place : goal.invariant-loop-place
invariant-loop-place g l = IsSeatAt (sends_on l.sender) l.pass × ((view l.pass).got ≡ []) × AreBelow l.place (view l.pass).sent × UnsentBelow l.place l.exports (view l.pass).sent l.unsent
