use Rattle.std.proofs.Common.{◌∙◌, ◌++◌, ◌∷◌, [], ap, arith, sym}
use Rattle.round_kit.specs.Placed.{value_of}
use Rattle.round_kit.proofs.Pairs.{pairs_more}
use Rattle.round_kit.proofs.set.copy_pairs.Goals as goal

pub loop-index-preserved : goal.loop-index-preserved
loop-index-preserved c =
    let index = c.loop-index.index in
    let value = c.in_ok-copy_out.ensures ∙ ap value_of c.index-values-index.is in
    c.in_ok-push.ensures.items ∙ (λ i. c.loop-index.invariant i ++ (c.in_ok-key.ensures.ok i, value i) ∷ [])
    ∙ sym (pairs_more c.args.keys.now c.args.values.now index _ c.index-values-index.result c.loop-index-test.true (omega (arith, c.requires, c.loop-index-test.true)))
