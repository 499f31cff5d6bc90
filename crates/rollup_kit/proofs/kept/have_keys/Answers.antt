use Rattle.std.proofs.Common.{◌∙◌, Some, ap, sym, arith, slice_get, ℕ, List}
use Rattle.std.specs.Option.{option_map}
use Rattle.attr_kit.specs.Exact.{exact_texts}
use Rattle.attr_kit.specs.declared.attr_value.AttrValue.{AttrValue}
use Rattle.agg_kit.proofs.Alike.{same_more}
use Rattle.rollup_kit.proofs.Shown.{all_same}
use Rattle.rollup_kit.proofs.kept.have_keys.Goals as goal

pub loop-index-preserved : goal.loop-index-preserved
loop-index-preserved c =
    same_more (λ place. option_map (λ (p : List ℕ × AttrValue). p.0) (slice_get c.args.pairs.now place)) Some c.args.places.now c.args.keys.now c.loop-index.index 0 c.index-keys-index.result
    (omega (arith, c.if-places-keys.false, c.loop-index-test.true)) c.loop-index-test.true c.loop-index.invariant
    (ap (option_map (λ (p : List ℕ × AttrValue). p.0)) (sym c.in-Some.ensures) ∙ ap Some (exact_texts c.in-Some.pair.now.0 c.index-keys-index.result (sym c.if-eq.ensures) ∙ c.index-keys-index.is))

pub returns : goal.returns
returns c =
    λ _. all_same (λ place. option_map (λ (p : List ℕ × AttrValue). p.0) (slice_get c.args.pairs.now place)) Some c.args.places.now c.args.keys.now c.loop-index.index
    (omega (arith, c.if-places-keys.false, c.loop-index-test.false)) c.loop-index-test.false c.loop-index.invariant
