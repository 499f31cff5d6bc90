use Rattle.std.proofs.Common.{◌≡◌, take}
use Rattle.world_kit.specs.Building.{replies}
use Rattle.world_kit.specs.Judged.{deeds}
use Rattle.world_kit.specs.Stands.{Stands}
use Rattle.world_kit.proofs.replaying.replay.Given as goal

abbrev pub invariant-loop-event : goal.invariant-loop-event
invariant-loop-event l = Stands l.fn.setup (deeds l.fn.setup (take l.event-index l.events)) l.world × (l.replies.items ≡ replies l.fn.setup (take l.event-index l.events))
