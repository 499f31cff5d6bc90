use Rattle.std.proofs.Common.{◌≡◌, ◌<◌, false, map, take, length, refl, true≢false, sym, ap, ◌∙◌, rules, arith}
use Rattle.std.proofs.lemmas.Grind.{common_steps}
use Rattle.gateway_kit.specs.Incarnations.{keyed_cells}
use Rattle.gateway_kit.proofs.Same.{same_here, same_more}
use Rattle.gateway_kit.proofs.incarnations.same_incarnations.Goals as goal

pub loop-place-init : goal.loop-place-init
loop-place-init c = refl

pub returns-then-not-same : goal.returns-then-not-same
returns-then-not-same c =
    let i = c.loop-place.place in
    let h : i < length c.args.mine.now.items = grind (arith, common_steps) in
    let k : i < length c.args.theirs.now.items = grind (arith, common_steps) in
    let no : c.same.result ≡ false = search rules in (
      λ yes. absurd (true≢false (sym yes)),
      λ same. absurd (true≢false (sym (c.same.ensures.1 (same_here keyed_cells c.args.mine.now.items c.args.theirs.now.items i c.get.result.now c.get-in-loop-place.result.now h k c.get.ensures.value c.get-in-loop-place.ensures.value same)) ∙ no)),
    )

pub loop-place-preserved : goal.loop-place-preserved
loop-place-preserved c =
    let i = c.loop-place.place in
    let h : i < length c.args.mine.now.items = grind (arith, common_steps) in
    let k : i < length c.args.theirs.now.items = grind (arith, common_steps) in
    same_more keyed_cells c.args.mine.now.items c.args.theirs.now.items i c.get.result.now c.get-in-loop-place.result.now h k c.get.ensures.value c.get-in-loop-place.ensures.value c.loop-place.invariant (c.same.ensures.0 (search rules))

pub returns : goal.returns
returns c =
    let whole : take c.loop-place.place c.args.mine.now.items ≡ c.args.mine.now.items = grind (arith, common_steps) in
    let other : take c.loop-place.place c.args.theirs.now.items ≡ c.args.theirs.now.items = grind (arith, common_steps) in (
      λ yes. ap (map keyed_cells) (sym whole) ∙ c.loop-place.invariant ∙ ap (map keyed_cells) other,
      λ same. refl,
    )
