use Rattle.std.proofs.Common.{◌≡◌, map, take}
use Rattle.world_kit.specs.Building.{fresh}
use Rattle.world_kit.proofs.build.open.Given as goal

abbrev pub invariant-loop-id : goal.invariant-loop-id
invariant-loop-id l = l.nodes.items ≡ map fresh (take l.id-index l.ids)
