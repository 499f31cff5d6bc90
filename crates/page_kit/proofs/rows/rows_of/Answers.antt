use Rattle.std.proofs.Common.{[], List, map, fold, ap, ◌∙◌}
use Rattle.std.proofs.lemmas.List.{take_all}
use Rattle.std.proofs.lemmas.Result.{IfOk-weaker}
use Rattle.gateway_kit.specs.Walks.{keyed_cell_of_ref}
use Rattle.gateway_kit.specs.declared.points.PointRef.{PointRef}
use Rattle.page_kit.specs.Labels.{labels_cmp, row_labels}
use Rattle.page_kit.specs.Groups.{put}
use Rattle.page_kit.specs.Rows.{rows}
use Rattle.page_kit.specs.Totals.{KeyedCell}
use Rattle.page_kit.specs.Views.{lists}
use Rattle.page_kit.proofs.Grouped.{grouped_rows, one_more}
use Rattle.page_kit.proofs.rows.rows_of.Goals as goal

pub loop-point-preserved : goal.loop-point-preserved
loop-point-preserved c =
    let old = lists c.loop-point.groups.entries in
    one_more labels_cmp (λ (p : PointRef). (row_labels (keyed_cell_of_ref p).0, p)) c.args.points.now [] old (lists c.put.new.groups.entries) c.loop-point.point-index c.point-item.result c.loop-point-test.true c.loop-point.invariant
    (c.in_ok-put.ensures ∙ ap (λ k. put labels_cmp old (k, c.point-item.result)) c.in_ok-labels.ensures ∙ ap (λ (p : PointRef). put labels_cmp old (row_labels (keyed_cell_of_ref p).0, p)) c.point-item.is)

pub returns : goal.returns
unfolding rows
returns c =
    IfOk-weaker c.list_of.result _ _ (λ list is. grouped_rows labels_cmp keyed_cell_of_ref (λ (e : KeyedCell). row_labels e.0) (λ v. v.items) list.items c.loop-point.groups.entries c.args.points.now is
    (c.loop-point.invariant ∙ ap (λ (ps : List PointRef). fold (put labels_cmp) [] (map (λ (p : PointRef). (row_labels (keyed_cell_of_ref p).0, p)) ps)) (take_all c.loop-point.point-index c.args.points.now c.loop-point-test.false))) c.list_of.ensures
