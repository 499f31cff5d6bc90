use Rattle.std.proofs.Common.{◌≡◌, ◌∙◌, sym, ap, rules, refl, map, None, Some, false, codes, ◌==◌}
use Rattle.std.specs.Str.{bytes_eq}
use Rattle.std.specs.List.{slice_split}
use Rattle.script_kit.specs.Attributes.{pairs_of, pair_of}
use Rattle.script_kit.specs.Pieces.{all_some}
use Rattle.script_kit.proofs.ListLemmas.{mapped_more, mapped_none}
use Rattle.script_kit.proofs.attributes.pairs.Goals as goal

pub returns-in-None : goal.returns-in-None
unfolding pairs_of
returns-in-None c =
    let cut : all_some pair_of (map (λ w. w.now) c.deref-piece-items.result.now) ≡ None = mapped_none pair_of (λ w. w.now) c.deref-piece-items.result.now c.loop-piece.piece-index _ c.loop-piece-test.true (sym c.in-None.is ∙ c.in_ok-pair.ensures) in
    let same : map (λ w. w.now) c.deref-piece-items.result.now ≡ slice_split (λ b. b == 44) c.args.word.now = ap (map (λ w. w.now)) c.deref-piece-items.ensures.value ∙ c.in_ok-pieces.ensures in
    let none : all_some pair_of (slice_split (λ b. b == 44) c.args.word.now) ≡ None = rw same at cut in
    let other : bytes_eq c.args.word.now (codes "-") ≡ false = search rules in
    rw (other, none) refl

pub loop-piece-preserved : goal.loop-piece-preserved
loop-piece-preserved c =
    mapped_more pair_of (λ w. w.now) c.deref-piece-items.result.now c.loop-piece.piece-index _ c.loop-piece.pairs.items c.in-Some.pair c.loop-piece-test.true c.loop-piece.invariant (sym c.in-Some.is ∙ c.in_ok-pair.ensures)
    ∙ ap Some (sym c.in_ok-push-in-Some.ensures.items)
