use Rattle.std.proofs.Common.{◌≡◌, ◌<◌, ◌+◌, ℕ, zero, suc, true, false, cond, List, [], ◌∷◌, length, get_or, position, Some, arith, refl, sym, ap, ◌∙◌}
use Rattle.std.proofs.lemmas.Iterator.Adapters.{position_from-zero}
use Rattle.std.specs.List.{IsDistinct, position_from}
use Rattle.point_kit.proofs.Sound.{same_key_equivalence}
use Rattle.point_kit.specs.ExportFaults.{same_key}
use Rattle.point_kit.specs.declared.export_point.ExportPoint.{ExportPoint}
use Rattle.archive_kit.proofs.Kept.{from_rec}
use Rattle.archive_kit.proofs.totals.place_of.Goals as goal

other_key : (p q y : ExportPoint) → same_key q y ≡ false → same_key p y ≡ true → same_key p q ≡ false
other_key p q y n e = elim (same_key p q) as (λ b. same_key p q ≡ b → b ≡ false) [
  | true ↦ λ t. sym e ∙ same_key_equivalence.congr p q y t ∙ n
  | false ↦ λ _. refl
] refl

-- a place that has the key is the first, where no two have one
first_from : (p d : ExportPoint) (i k : ℕ) (qs : List ExportPoint) → IsDistinct same_key qs → k < length qs → same_key p (get_or qs k d) ≡ true
    → position_from (λ q. same_key p q) i qs ≡ Some (i + k)
unfolding IsDistinct
first_from p d i k [] apart l e = absurd (omega arith)
first_from p d i zero (q ∷ qs) apart l e =
    let at : i ≡ i + 0 = omega arith in
    ap (λ b. cond b (Some i) (position_from (λ q. same_key p q) (i + 1) qs)) e ∙ ap (λ n. Some n) at
first_from p d i (suc k) (q ∷ qs) apart l e =
    let within : k < length qs = omega arith in
    let at : i + 1 + k ≡ i + suc k = omega arith in
    let here : same_key p q ≡ false = other_key p q (get_or qs k d) (from_rec (λ y. same_key q y ≡ false) qs apart.0 k d within) e in
    ap (λ b. cond b (Some i) (position_from (λ q. same_key p q) (i + 1) qs)) here ∙ first_from p d (i + 1) k qs apart.1 within e ∙ ap (λ n. Some n) at

first : (p d : ExportPoint) (k : ℕ) (qs : List ExportPoint) → IsDistinct same_key qs → k < length qs → same_key p (get_or qs k d) ≡ true
    → position (λ q. same_key p q) qs ≡ Some k
first p d k qs apart l e =
    let at : 0 + k ≡ k = omega arith in
    position_from-zero (λ q. same_key p q) qs ∙ first_from p d 0 k qs apart l e ∙ ap (λ n. Some n) at

pub returns-then-are_of_one_key : goal.returns-then-are_of_one_key
returns-then-are_of_one_key c =
    let p = c.args.point.now in
    let points = c.args.points.now in
    let d = c.index-points-guess.result in
    let within : c.args.guess < length points = omega arith in
    let here : same_key p (get_or points c.args.guess d) ≡ true = ap (same_key p) (sym c.index-points-guess.is) ∙ sym c.are_of_one_key.ensures ∙ c.if-are_of_one_key.true in
    sym (first p d c.args.guess points c.requires within here)
