use Rattle.std.proofs.Common.{◌∙◌, Some, ap, sym, arith, map, slice_get}
use Rattle.attr_kit.specs.Exact.{exact_pairs, exact_texts, exact_values}
use Rattle.agg_kit.proofs.Alike.{same_more}
use Rattle.rollup_kit.proofs.Shown.{all_same}
use Rattle.rollup_kit.proofs.kept.show.Goals as goal

pub loop-index-preserved : goal.loop-index-preserved
loop-index-preserved c =
    same_more (slice_get c.args.pairs.now) Some c.args.places.now c.pairs-held.result.now c.loop-index.index 0 c.index-held-index.result
    (omega (arith, c.if-places-held.false, c.loop-index-test.true)) c.loop-index-test.true c.loop-index.invariant
    (sym c.in-Some.ensures ∙ ap Some (exact_pairs exact_texts exact_values c.in-Some.other.now c.index-held-index.result (sym c.if-eq.ensures) ∙ c.index-held-index.is))

pub returns-clause-shown : goal.returns-clause-shown
returns-clause-shown c =
    λ _. all_same (slice_get c.args.pairs.now) Some c.args.places.now c.pairs-held.result.now c.loop-index.index
    (omega (arith, c.if-places-held.false, c.loop-index-test.false)) c.loop-index-test.false c.loop-index.invariant
    ∙ ap (map Some) c.pairs-held.ensures.value
