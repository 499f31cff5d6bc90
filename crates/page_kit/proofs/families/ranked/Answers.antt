use Rattle.std.proofs.Common.{ap, ◌∙◌}
use Rattle.std.proofs.lemmas.Result.{IfOk-weaker}
use Rattle.std.specs.Vec.Iter.{into_iter_items, into_iter_len}
use Rattle.page_kit.specs.Families.{rank_cmp, rank_of, ranked}
use Rattle.page_kit.specs.Groups.{put}
use Rattle.page_kit.specs.Views.{lists}
use Rattle.page_kit.proofs.Ordered.{none_grouped, grouped_more, all_ordered}
use Rattle.page_kit.proofs.families.ranked.Goals as goal

pub loop-measured-init : goal.loop-measured-init
loop-measured-init c =
    let gives = c.into_iter-measured-iterator.ensures.into_iter_gives in
    none_grouped rank_cmp rank_of c.args.metrics.items _ _ _ gives.0 (gives.1 ∙ c.args.metrics.ok.0) (ap lists c.new-groups.ensures.empty)

pub loop-measured-preserved : goal.loop-measured-preserved
loop-measured-preserved c =
    let old = lists c.loop-measured.groups.entries in
    let steps = c.in-Some.ensures.steps in
    grouped_more rank_cmp rank_of c.args.metrics.items c.loop-measured.yielded _ (into_iter_items c.next.new.self) c.in-Some.measured _ (into_iter_len c.next.new.self) old (lists c.put.new.groups.entries) c.loop-measured.invariant steps.0 steps.1
    (c.in_ok-put.ensures ∙ ap (λ k. put rank_cmp old (k, c.in-Some.measured)) c.in_ok-rank.ensures)

pub returns : goal.returns
unfolding ranked
returns c =
    IfOk-weaker c.values_of.result _ _ (λ list is. all_ordered rank_cmp rank_of (λ v. v.items) c.args.metrics.items c.loop-measured.yielded _ list.items _ c.loop-measured.groups.entries c.loop-measured.invariant c.in-None.ensures.steps.0 is) c.values_of.ensures
