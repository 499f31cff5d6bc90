use Rattle.std.proofs.Common.{[], List, map, fold, ap, ◌∙◌}
use Rattle.std.proofs.lemmas.List.{take_all}
use Rattle.std.proofs.lemmas.Result.{IfOk-weaker}
use Rattle.gateway_kit.specs.Walks.{keyed_cell_of_ref}
use Rattle.gateway_kit.specs.declared.points.PointRef.{PointRef}
use Rattle.page_kit.specs.Metrics.{metric_of}
use Rattle.page_kit.specs.Groups.{put}
use Rattle.page_kit.specs.Families.{metric_cmp, metrics_of}
use Rattle.page_kit.specs.Totals.{KeyedCell}
use Rattle.page_kit.specs.Views.{lists}
use Rattle.page_kit.proofs.Grouped.{grouped_rows, one_more}
use Rattle.page_kit.proofs.families.by_metric.Goals as goal

pub loop-point-preserved : goal.loop-point-preserved
loop-point-preserved c =
    let old = lists c.loop-point.groups.entries in
    one_more metric_cmp (λ (p : PointRef). (metric_of p.stream.now, p)) c.args.points.now [] old (lists c.put.new.groups.entries) c.loop-point.point-index c.point-item.result c.loop-point-test.true c.loop-point.invariant
    (c.in_ok-put.ensures ∙ ap (λ k. put metric_cmp old (k, c.point-item.result)) c.in_ok-metric.ensures ∙ ap (λ (p : PointRef). put metric_cmp old (metric_of p.stream.now, p)) c.point-item.is)

pub returns : goal.returns
unfolding metrics_of
returns c =
    IfOk-weaker c.list_of.result _ _ (λ list is. grouped_rows metric_cmp keyed_cell_of_ref (λ (e : KeyedCell). metric_of e.0.stream) (λ v. v.items) list.items c.loop-point.groups.entries c.args.points.now is
    (c.loop-point.invariant ∙ ap (λ (ps : List PointRef). fold (put metric_cmp) [] (map (λ (p : PointRef). (metric_of p.stream.now, p)) ps)) (take_all c.loop-point.point-index c.args.points.now c.loop-point-test.false))) c.list_of.ensures
