use Rattle.std.proofs.Common.{◌∙◌, ap, arith}
use Rattle.agg_kit.proofs.Alike.{not_apart, same_more}
use Rattle.round_kit.proofs.set.are_keys.Goals as goal

pub loop-index-preserved : goal.loop-index-preserved
loop-index-preserved c =
    let index = c.loop-index.index in
    let pairs = c.args.pairs.now in
    let pair = c.index-pairs-index.result in
    same_more (λ key. key.now) (λ p. p.0) c.args.keys.now pairs index _ pair (omega (arith, c.if-keys-pairs.false, c.loop-index-test.true)) c.loop-index-test.true
    c.loop-index.invariant
    (not_apart _ _ c.if-ne.ensures ∙ c.as_str.ensures ∙ ap (λ p. p.0) c.index-pairs-index.is)
