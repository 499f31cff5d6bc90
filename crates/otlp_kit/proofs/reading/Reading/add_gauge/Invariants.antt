use Rattle.std.proofs.Common.{◌≡◌, drop}
use Rattle.otlp_kit.specs.Walks.{walk, walk_from}
use Rattle.otlp_kit.specs.Reading.{add_gauge_point}
use Rattle.otlp_kit.proofs.reading.Reading.add_gauge.Given as goal

abbrev pub invariant-loop-point : goal.invariant-loop-point
invariant-loop-point l = walk_from (add_gauge_point l.stream) l.point-index l.self (drop l.point-index l.points) ≡ walk (add_gauge_point l.stream) l.fn.self l.points
