use Rattle.std.proofs.Common.{◌≡◌, ◌++◌, List, subst, sym, ap, ◌∙◌, append-nil}
use Rattle.std.specs.Result.{OnOk}
use Rattle.plan_kit.specs.declared.wanted.Wanted.{Wanted}
use Rattle.plan_kit.proofs.Feeding.{wanted_default, wanted_matching, wanted_nothing}
use Rattle.plan_kit.proofs.wanted.add_feeds.Goals as goal

pub returns-then-drops : goal.returns-then-drops
returns-then-drops c =
    sym (append-nil c.args.wanted.now.items)
    ∙ ap (λ l. c.args.wanted.now.items ++ l)
    (sym (wanted_nothing c.args.views.now c.args.owner c.args.instrument.now c.as_slice-places.result.now c.is_empty.result c.drops.result (c.as_slice-places.ensures.value ∙ c.in_ok-matching.ensures) c.is_empty.ensures c.drops.ensures c.if-is_empty.true c.if-drops.true))

pub returns-then-is_empty : goal.returns-then-is_empty
returns-then-is_empty c =
    subst (λ (l : List Wanted). OnOk c.add_default.result (c.add_default.new.wanted.items ≡ c.args.wanted.now.items ++ l))
    (wanted_default c.args.views.now c.args.owner c.args.instrument.now c.as_slice-places.result.now c.is_empty.result c.drops.result (c.as_slice-places.ensures.value ∙ c.in_ok-matching.ensures) c.is_empty.ensures c.drops.ensures c.if-is_empty.true c.if-drops.false)
    c.add_default.ensures

pub returns : goal.returns
returns c =
    subst (λ (l : List Wanted). OnOk c.add_each.result (c.add_each.new.wanted.items ≡ c.args.wanted.now.items ++ l))
    (wanted_matching c.args.views.now c.args.owner c.args.instrument.now c.as_slice-places.result.now c.is_empty.result (c.as_slice-places.ensures.value ∙ c.in_ok-matching.ensures) c.is_empty.ensures c.if-is_empty.false)
    c.add_each.ensures
