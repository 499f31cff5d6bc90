use Rattle.std.proofs.Common.{[], List, map, filter, fold, cond, ap, ◌∙◌}
use Rattle.std.proofs.lemmas.List.{take_all}
use Rattle.std.proofs.lemmas.Result.{IfOk-weaker}
use Rattle.gateway_kit.specs.Walks.{keyed_cell_of_ref}
use Rattle.gateway_kit.specs.declared.points.PointRef.{PointRef}
use Rattle.page_kit.specs.Labels.{labels_cmp, conflict_labels}
use Rattle.page_kit.specs.Groups.{keyed, groups, put}
use Rattle.page_kit.specs.Page.{conflict_rows}
use Rattle.page_kit.specs.Totals.{KeyedCell, is_conflict}
use Rattle.page_kit.specs.Views.{lists}
use Rattle.page_kit.proofs.Grouped.{grouped_rows, one_kept, filter_read}
use Rattle.page_kit.proofs.own.conflicts_of.Goals as goal

pub loop-point-preserved : goal.loop-point-preserved
loop-point-preserved c =
    let old = lists c.loop-point.groups.entries in
    one_kept labels_cmp (λ (p : PointRef). is_conflict (keyed_cell_of_ref p)) (λ (p : PointRef). (conflict_labels (keyed_cell_of_ref p).0, p)) c.args.points.now [] old (lists c.put_conflict.new.groups.entries) c.loop-point.point-index c.point-item.result c.loop-point-test.true c.loop-point.invariant
    (c.in_ok-put_conflict.ensures ∙ ap (λ (p : PointRef). cond (is_conflict (keyed_cell_of_ref p)) (put labels_cmp old (conflict_labels (keyed_cell_of_ref p).0, p)) old) c.point-item.is)

pub returns : goal.returns
unfolding conflict_rows
returns c =
    let held = filter (λ (p : PointRef). is_conflict (keyed_cell_of_ref p)) c.args.points.now in
    IfOk-weaker c.list_of.result _ _ (λ list is. grouped_rows labels_cmp keyed_cell_of_ref (λ (e : KeyedCell). conflict_labels e.0) (λ v. v.items) list.items c.loop-point.groups.entries held is
    (c.loop-point.invariant ∙ ap (λ (ps : List PointRef). fold (put labels_cmp) [] (map (λ (p : PointRef). (conflict_labels (keyed_cell_of_ref p).0, p)) (filter (λ (p : PointRef). is_conflict (keyed_cell_of_ref p)) ps))) (take_all c.loop-point.point-index c.args.points.now c.loop-point-test.false))
    ∙ ap (λ (es : List KeyedCell). groups labels_cmp (keyed (λ (e : KeyedCell). conflict_labels e.0) es)) (filter_read keyed_cell_of_ref is_conflict c.args.points.now)) c.list_of.ensures
