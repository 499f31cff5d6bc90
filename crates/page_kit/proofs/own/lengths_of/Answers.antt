use Rattle.std.proofs.Common.{[], ℕ, List, map, fold, length, sym, ap, ◌∙◌}
use Rattle.std.proofs.lemmas.List.{take_all}
use Rattle.std.proofs.lemmas.Result.{IfOk-weaker}
use Rattle.page_kit.specs.Labels.{labels_cmp, metric_labels}
use Rattle.page_kit.specs.Groups.{put, groups}
use Rattle.page_kit.specs.Page.{left_out_rows}
use Rattle.page_kit.specs.Views.{lists}
use Rattle.page_kit.specs.declared.families.Measured.{Measured}
use Rattle.page_kit.proofs.Grouped.{one_more}
use Rattle.page_kit.proofs.Counts.{counts_read}
use Rattle.page_kit.proofs.own.lengths_of.Goals as goal

pub loop-measured-preserved : goal.loop-measured-preserved
loop-measured-preserved c =
    let old = lists c.loop-measured.groups.entries in
    one_more labels_cmp (λ (m : Measured). (metric_labels m.metric, length m.points.items)) c.args.metrics.now [] old (lists c.put.new.groups.entries) c.loop-measured.measured-index c.measured-item.result c.loop-measured-test.true c.loop-measured.invariant
    (c.in_ok-put.ensures ∙ ap (λ k. put labels_cmp old (k, length c.as_slice.result.now)) c.in_ok-labels.ensures
    ∙ ap (λ (n : ℕ). put labels_cmp old (metric_labels c.measured-item.result.metric, n)) (ap length c.as_slice.ensures.value)
    ∙ ap (λ (m : Measured). put labels_cmp old (metric_labels m.metric, length m.points.items)) c.measured-item.is)

pub returns : goal.returns
unfolding left_out_rows groups
returns c =
    IfOk-weaker c.list_of.result _ _ (λ list is. ap lists is
    ∙ c.loop-measured.invariant ∙ ap (λ (ms : List Measured). fold (put labels_cmp) [] (map (λ (m : Measured). (metric_labels m.metric, length m.points.items)) ms)) (take_all c.loop-measured.measured-index c.args.metrics.now c.loop-measured-test.false)
    ∙ ap (fold (put labels_cmp) []) (sym (counts_read c.args.metrics.now))) c.list_of.ensures
