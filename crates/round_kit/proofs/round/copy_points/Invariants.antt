use Rattle.std.proofs.Common.{◌≡◌, map, take}
use Rattle.round_kit.specs.Rounds.{point_of}
use Rattle.round_kit.proofs.round.copy_points.Given as goal

abbrev pub invariant-loop-point : goal.invariant-loop-point
invariant-loop-point l = l.copy.items ≡ map point_of (take l.point-index l.points)
