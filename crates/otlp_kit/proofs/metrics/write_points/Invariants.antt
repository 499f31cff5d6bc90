use Rattle.std.proofs.Common.{◌≡◌, ◌++◌, take}
use Rattle.std.specs.List.{flat_map}
use Rattle.otlp_kit.specs.Request.{point}
use Rattle.otlp_kit.proofs.metrics.write_points.Given as goal

abbrev pub invariant-loop-point : goal.invariant-loop-point
invariant-loop-point l = l.out.items ≡ l.fn.out.items ++ flat_map (point l.covered.start l.covered.time) (take l.point-index l.points)
