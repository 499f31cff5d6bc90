use Rattle.std.proofs.Common.{◌≡◌, drop}
use Rattle.otlp_kit.specs.Walks.{walk, walk_from}
use Rattle.otlp_kit.specs.Reading.{add_sum_point}
use Rattle.otlp_kit.proofs.reading.Reading.add_sum.Given as goal

abbrev pub invariant-loop-point : goal.invariant-loop-point
invariant-loop-point l = walk_from (add_sum_point l.stream) l.point-index l.self (drop l.point-index l.points) ≡ walk (add_sum_point l.stream) l.fn.self l.points
