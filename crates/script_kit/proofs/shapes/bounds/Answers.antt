use Rattle.std.proofs.Common.{◌≡◌, ◌∙◌, sym, ap, rules, refl, map, None, Some, false, ◌==◌, length, ℤ, FitsSigned, w64, ◌++◌, ◌∷◌, []}
use Rattle.std.proofs.lemmas.Int.{to_z-of_z}
use Rattle.std.specs.List.{slice_split}
use Rattle.script_kit.specs.Numbers.{value_of}
use Rattle.script_kit.specs.Pieces.{all_some}
use Rattle.script_kit.specs.Shapes.{bounds_of}
use Rattle.script_kit.proofs.ListLemmas.{mapped_more, mapped_none}
use Rattle.script_kit.proofs.shapes.bounds.Goals as goal

pub returns-in-None : goal.returns-in-None
unfolding bounds_of
returns-in-None c =
    let cut : all_some value_of (map (λ w. w.now) c.deref-piece-items.result.now) ≡ None = mapped_none value_of (λ w. w.now) c.deref-piece-items.result.now c.loop-piece.piece-index _ c.loop-piece-test.true (sym c.in-None.is ∙ c.i64_of.ensures) in
    let same : map (λ w. w.now) c.deref-piece-items.result.now ≡ slice_split (λ b. b == 44) c.args.word.now = ap (map (λ w. w.now)) c.deref-piece-items.ensures.value ∙ c.in_ok-pieces.ensures in
    let none : all_some value_of (slice_split (λ b. b == 44) c.args.word.now) ≡ None = rw same at cut in
    let other : (length c.args.word.now == 0) ≡ false = search rules in
    rw (other, none) refl

pub loop-piece-preserved : goal.loop-piece-preserved
loop-piece-preserved c =
    let fits : FitsSigned w64 c.in-Some.bound = search rules in
    let items : c.push.new.self.items ≡ c.loop-piece.bounds.items ++ c.in-Some.bound ∷ [] = c.in_ok-push-in-Some.ensures.items ∙ ap (λ (b : ℤ). c.loop-piece.bounds.items ++ b ∷ []) (to_z-of_z w64 c.in-Some.bound fits) in
    mapped_more value_of (λ w. w.now) c.deref-piece-items.result.now c.loop-piece.piece-index _ c.loop-piece.bounds.items c.in-Some.bound c.loop-piece-test.true c.loop-piece.invariant (sym c.in-Some.is ∙ c.i64_of.ensures)
    ∙ ap Some (sym items)
