use Rattle.std.proofs.Common.{ℕ, List, ap, ◌∙◌}
use Rattle.std.proofs.lemmas.Result.{IfOk-weaker}
use Rattle.std.specs.Vec.Iter.{into_iter_items, into_iter_len}
use Rattle.attr_kit.specs.Orders.{text_cmp}
use Rattle.page_kit.specs.Families as families
use Rattle.page_kit.specs.Families.{by_name}
use Rattle.page_kit.specs.Metrics.{family}
use Rattle.page_kit.specs.Groups.{put}
use Rattle.page_kit.specs.Views.{lists}
use Rattle.page_kit.proofs.Ordered.{none_grouped, grouped_more, all_ordered}
use Rattle.page_kit.proofs.families.by_name.Goals as goal

abbrev name_of : families.Measured → List ℕ
name_of m = family m.0

pub loop-measured-init : goal.loop-measured-init
loop-measured-init c =
    let gives = c.into_iter-measured-iterator.ensures.into_iter_gives in
    none_grouped text_cmp name_of c.args.metrics.items _ _ _ gives.0 (gives.1 ∙ c.args.metrics.ok.0) (ap lists c.new-groups.ensures.empty)

pub loop-measured-preserved : goal.loop-measured-preserved
loop-measured-preserved c =
    let old = lists c.loop-measured.groups.entries in
    let steps = c.in-Some.ensures.steps in
    grouped_more text_cmp name_of c.args.metrics.items c.loop-measured.yielded _ (into_iter_items c.next.new.self) c.in-Some.measured _ (into_iter_len c.next.new.self) old (lists c.put.new.groups.entries) c.loop-measured.invariant steps.0 steps.1
    (c.in_ok-put.ensures ∙ ap (λ k. put text_cmp old (k, c.in-Some.measured)) (c.from_string-name.ensures ∙ c.in_ok-family.ensures))

pub returns : goal.returns
unfolding by_name
returns c =
    IfOk-weaker c.values_of.result _ _ (λ list is. all_ordered text_cmp name_of (λ v. v.items) c.args.metrics.items c.loop-measured.yielded _ list.items _ c.loop-measured.groups.entries c.loop-measured.invariant c.in-None.ensures.steps.0 is) c.values_of.ensures
