use Rattle.std.proofs.Common.{◌≡◌, ℤ, pos, List, [], ◌∷◌, ◌++◌, cond, filter, get_or, SFits, w64, to_z, of_z, rules, ap, ◌∙◌}
use Rattle.std.specs.List.{list_any}
use Rattle.std.specs.Ordering.{eq_by_cmp, int_cmp}
use Rattle.std.proofs.lemmas.Int.{to_z-of_z}
use Rattle.std.proofs.lemmas.List.{take_all}
use Rattle.page_kit.proofs.Held.{kept_more}
use Rattle.page_kit.proofs.bounds.kept.Goals as goal

pub loop-bound-preserved : goal.loop-bound-preserved
loop-bound-preserved c =
    let i = c.loop-bound.bound-index in
    let x = get_or c.args.bounds.now i (pos 0) in
    let fits : SFits w64 x = search rules in
    let same : to_z w64 (of_z w64 x) ≡ x = to_z-of_z w64 x fits in
    let old = c.loop-bound.kept.items in
    kept_more (λ (bound : ℤ). list_any (eq_by_cmp int_cmp bound) c.args.others.now) c.args.bounds.now old c.push_if.new.bounds.items i (pos 0) c.contains-passes.result c.loop-bound-test.true c.loop-bound.invariant
    (c.contains-passes.ensures ∙ c.in_ok-set.ensures.has _) (c.in_ok-push_if.ensures ∙ ap (λ (y : ℤ). cond c.contains-passes.result (old ++ y ∷ []) old) same)

pub returns : goal.returns
returns c = c.loop-bound.invariant ∙ ap (λ (bs : List ℤ). filter (λ (bound : ℤ). list_any (eq_by_cmp int_cmp bound) c.args.others.now) bs) (take_all c.loop-bound.bound-index c.args.bounds.now c.loop-bound-test.false)
