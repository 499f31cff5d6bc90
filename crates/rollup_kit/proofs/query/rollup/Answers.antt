use Rattle.std.proofs.Common.{◌∙◌, ℕ, subst}
use Rattle.std.proofs.lemmas.Result.{IfOk-weaker}
use Rattle.std.specs.FinMap.{entries}
use Rattle.rollup_kit.specs.Standing.{Stands}
use Rattle.rollup_kit.proofs.Answered.{answered}
use Rattle.rollup_kit.proofs.query.rollup.Goals as goal

pub returns : goal.returns
returns c =
    let ask = c.args.ask.now in
    let state = c.args.gateway.now.points in
    let groups = c.in_ok-in_order.field-0.items in
    let stands : Stands ask c.buckets_for-buckets.result (entries state) c.in_ok-groups.groups.items = c.asked_points.ensures.whole c.buckets_for-buckets.result c.in_ok-groups.groups.items c.in_ok-groups.ensures.stands in
    let ordered : Stands ask c.buckets_for-buckets.result (entries state) groups = λ q. c.in_ok-in_order.ensures.same q ∙ stands q in
    record {
      value = IfOk-weaker c.rows_of.result _ _ (λ rows is. is ∙ answered ask state groups c.in_ok-in_order.ensures.sorted
          (subst (λ (n : ℕ). Stands ask n (entries state) groups) c.buckets_for-buckets.ensures ordered)) c.rows_of.ensures;
    }
