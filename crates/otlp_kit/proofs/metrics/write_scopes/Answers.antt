use Rattle.std.proofs.Common.{◌<◌, ◌++◌, length, List, ap, ◌∙◌, arith}
use Rattle.std.specs.List.{flat_map}
use Rattle.std.proofs.lemmas.Grind.{common_steps}
use Rattle.point_kit.specs.declared.export_point.ExportPoint.{ExportPoint}
use Rattle.otlp_kit.specs.Request.{scope_metrics, of_one_scope}
use Rattle.otlp_kit.specs.Runs.{runs}
use Rattle.otlp_kit.proofs.Fronts.{within, has_some, run_more}
use Rattle.otlp_kit.proofs.metrics.write_scopes.Goals as goal

pub split_at-requires : goal.split_at-requires
split_at-requires c = within of_one_scope c.loop-rest.rest.now c.scope_run.result c.scope_run.ensures

pub write_scope-requires : goal.write_scope-requires
write_scope-requires c =
    let some : 0 < length c.loop-rest.rest.now = grind (arith, common_steps) in
    omega (arith, has_some of_one_scope c.loop-rest.rest.now c.scope_run.result some c.scope_run.ensures, c.split_at.ensures.front_len)

pub loop-rest-smaller : goal.loop-rest-smaller
loop-rest-smaller c =
    let some : 0 < length c.loop-rest.rest.now = grind (arith, common_steps) in
    omega (arith, has_some of_one_scope c.loop-rest.rest.now c.scope_run.result some c.scope_run.ensures, c.split_at.ensures.back_len)

pub loop-rest-preserved : goal.loop-rest-preserved
loop-rest-preserved c =
    let start = c.args.covered.start in
    let time = c.args.covered.time in
    let some : 0 < length c.loop-rest.rest.now = grind (arith, common_steps) in
    ap (λ (ps : List ExportPoint). c.write_scope.new.out.items ++ flat_map (scope_metrics start time) (runs of_one_scope ps)) c.split_at.ensures.back
    ∙ run_more of_one_scope (scope_metrics start time) (c.args.out.now.items ++ flat_map (scope_metrics start time) (runs of_one_scope c.args.points.now)) c.loop-rest.out.items c.write_scope.new.out.items c.loop-rest.rest.now c.scope_run.result some c.scope_run.ensures c.loop-rest.invariant
    (c.in_ok-write_scope.ensures ∙ ap (λ (ps : List ExportPoint). c.loop-rest.out.items ++ scope_metrics start time ps) c.split_at.ensures.front)
