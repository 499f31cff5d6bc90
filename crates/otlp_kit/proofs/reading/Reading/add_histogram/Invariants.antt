use Rattle.std.proofs.Common.{◌≡◌, drop, IfSome}
use Rattle.otlp_kit.specs.Walks.{walk, walk_from}
use Rattle.otlp_kit.specs.Reading.{named, add_histogram_point}
use Rattle.otlp_kit.proofs.reading.Reading.add_histogram.Given as goal

abbrev pub invariant-loop-point : goal.invariant-loop-point
invariant-loop-point l = record {
  walked : walk_from (add_histogram_point l.names.scope.now l.names.name.now l.names.unit.now) l.point-index l.self (drop l.point-index l.points) ≡ walk (add_histogram_point l.names.scope.now l.names.name.now l.names.unit.now) l.fn.self l.points;
  named_so : IfSome l.last (λ s. s ≡ named l.names.scope.now l.names.name.now l.names.unit.now s.shape);
}
