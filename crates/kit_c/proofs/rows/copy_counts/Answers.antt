use Rattle.std.proofs.Common.{◌≡◌, ◌∙◌, ◌+◌, ◌<◌, ◌++◌, ℕ, suc, List, map, take, drop, length, ap, arith}
use Rattle.std.specs.Prelude.{slice_set}
use Rattle.std.proofs.lemmas.Grind.{common_steps}
use Rattle.kit_c.specs.Rows.{told_count}
use Rattle.kit_c.specs.declared.row.KitCount.{KitCount}
use Rattle.kit_c.proofs.Counts.{front, written}
use Rattle.kit_c.proofs.rows.copy_counts.Goals as goal

pub loop-place-preserved : goal.loop-place-preserved
loop-place-preserved c =
    let counts : List ℕ = c.args.counts.now in
    let room : List KitCount = c.args.into.now in
    let i = c.loop-place.place in
    let z : suc i ≡ i + 1 = omega arith in
    let here : i < length counts = grind (arith, common_steps) in
    let there : i < length room = grind (arith, common_steps) in
    (λ k. slice_set (c.loop-place.invariant k) i (c.of.ensures k))
    ∙ written told_count counts room i 0 here there
    ∙ ap (λ n. map told_count (take n counts) ++ drop n room) z

pub returns-clause-value : goal.returns-clause-value
returns-clause-value c =
    c.loop-place.invariant
    ∙ front told_count c.args.counts.now c.args.into.now c.loop-place.place (grind (arith, common_steps)) (grind (arith, common_steps))
    (grind (arith, common_steps))
