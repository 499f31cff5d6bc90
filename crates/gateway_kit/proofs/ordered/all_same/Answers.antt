use Rattle.std.proofs.Common.{◌≡◌, ◌<◌, false, map, take, length, refl, true≢false, sym, ap, ◌∙◌, rules, arith}
use Rattle.std.proofs.lemmas.Grind.{common_steps}
use Rattle.gateway_kit.proofs.Same.{same_here, same_more}
use Rattle.gateway_kit.proofs.ordered.all_same.Goals as goal

pub loop-place-init : goal.loop-place-init
loop-place-init g c = refl

pub returns-then-not-same : goal.returns-then-not-same
returns-then-not-same g c =
    let i = c.loop-place.place in
    let h : i < length c.args.mine.now = grind (arith, common_steps) in
    let k : i < length c.args.theirs.now = grind (arith, common_steps) in
    let no : c.same.result ≡ false = search rules in (
      λ yes. absurd (true≢false (sym yes)),
      λ same. absurd (true≢false (sym (c.same.ensures.1 (same_here g.T.Keyed.entry c.args.mine.now c.args.theirs.now i c.index-mine-place.result c.index-theirs-place.result h k c.index-mine-place.is c.index-theirs-place.is same)) ∙ no)),
    )

pub loop-place-preserved : goal.loop-place-preserved
loop-place-preserved g c =
    let i = c.loop-place.place in
    let h : i < length c.args.mine.now = grind (arith, common_steps) in
    let k : i < length c.args.theirs.now = grind (arith, common_steps) in
    same_more g.T.Keyed.entry c.args.mine.now c.args.theirs.now i c.index-mine-place.result c.index-theirs-place.result h k c.index-mine-place.is c.index-theirs-place.is c.loop-place.invariant (c.same.ensures.0 (search rules))

pub returns : goal.returns
returns g c =
    let whole : take c.loop-place.place c.args.mine.now ≡ c.args.mine.now = grind (arith, common_steps) in
    let other : take c.loop-place.place c.args.theirs.now ≡ c.args.theirs.now = grind (arith, common_steps) in (
      λ yes. ap (map g.T.Keyed.entry) (sym whole) ∙ c.loop-place.invariant ∙ ap (map g.T.Keyed.entry) other,
      λ same. refl,
    )
