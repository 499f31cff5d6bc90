use Rattle.std.proofs.Common.{◌≡◌, length, ap, sym, ◌∙◌, rules}
use Rattle.std.proofs.lemmas.Result.{on_ok_weaker}
use Rattle.point_kit.specs.declared.export_point.ExportPoint.{ExportPoint}
use Rattle.otlp_kit.specs.Request.{metric, metric_fields}
use Rattle.otlp_kit.proofs.Written.{closed_of_first, metric_by_first}
use Rattle.otlp_kit.proofs.metrics.write_metric.Goals as goal

pub returns : goal.returns
returns c =
    let at : c.len-start.result ≡ length c.args.out.now.items = search rules in
    let stream : c.get.result.now ≡ c.index-points-0.result.stream = c.get.ensures.value ∙ ap (λ (p : ExportPoint). p.stream) (sym c.index-points-0.is) in
    on_ok_weaker c.close_block.result
    (λ closes. closed_of_first (λ s. λ ps. metric_fields c.args.covered.start c.args.covered.time s ps) (metric c.args.covered.start c.args.covered.time) (metric_by_first c.args.covered.start c.args.covered.time)
    c.args.points.now c.index-points-0.result c.get.result.now _ _ _ _ c.requires c.index-points-0.is stream at c.in_ok-write_metric_fields.ensures closes)
    c.close_block.ensures
