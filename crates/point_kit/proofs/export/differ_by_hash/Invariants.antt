use Rattle.std.proofs.Common.{◌≡◌, map, take}
use Rattle.point_kit.specs.Hashes.{key_hash}
use Rattle.point_kit.proofs.export.differ_by_hash.Given as goal

abbrev pub invariant-loop-point : goal.invariant-loop-point
invariant-loop-point l = l.hashes.items ≡ map key_hash (take l.point-index l.points)
