use Rattle.std.proofs.Common.{◌≡◌, ◌++◌, length}
use Rattle.std.specs.List.{flat_map}
use Rattle.otlp_kit.specs.Request.{scope_metrics, of_one_scope}
use Rattle.otlp_kit.specs.Runs.{runs}
use Rattle.otlp_kit.proofs.metrics.write_scopes.Given as goal

abbrev pub invariant-loop-rest : goal.invariant-loop-rest
invariant-loop-rest l = l.out.items ++ flat_map (scope_metrics l.covered.start l.covered.time) (runs of_one_scope l.rest) ≡ l.fn.out.items ++ flat_map (scope_metrics l.covered.start l.covered.time) (runs of_one_scope l.points)

abbrev pub decreases-loop-rest : goal.decreases-loop-rest
decreases-loop-rest l = length l.rest
