-- Texts held in place, with zeros behind them.
use Rattle.std.proofs.Common.{◌≡◌, ℕ, zero, suc, ◌-◌, ◌&&◌, List, [], ◌∷◌, map, take, drop, replicate, nat_eq, ap, sym, refl, ◌∙◌}
use Rattle.std.specs.Char.{to_ascii_lowercase}
use Rattle.std.specs.Cmp.Lexicographic.{pointwise, bytes_decides}

-- lists with the same end are equal where their fronts are
equal_fronts : (n : ℕ) (xs ys : List ℕ) → drop n xs ≡ drop n ys → pointwise nat_eq xs ys ≡ pointwise nat_eq (take n xs) (take n ys)
equal_fronts zero xs ys h = (bytes_decides xs ys).1 h
equal_fronts (suc n) [] [] h = refl
equal_fronts (suc n) [] (y ∷ ys) h = refl
equal_fronts (suc n) (x ∷ xs) [] h = refl
equal_fronts (suc n) (x ∷ xs) (y ∷ ys) h = ap (λ r. nat_eq x y && r) (equal_fronts n xs ys h)

-- rooms with texts of one length are equal where the texts are
pub equal_texts : (room n m : ℕ) (xs ys : List ℕ) → n ≡ m → drop n xs ≡ replicate (room - n) 0 → drop m ys ≡ replicate (room - m) 0 → pointwise nat_eq xs ys ≡ pointwise nat_eq (take n xs) (take m ys)
equal_texts room n m xs ys same behind other =
    let ends = behind ∙ ap (λ k. replicate (room - k) 0) same ∙ sym other ∙ ap (λ k. drop k ys) (sym same) in
    equal_fronts n xs ys ends ∙ ap (λ k. pointwise nat_eq (take n xs) (take k ys)) same

-- a zero is no letter
pub zeros_lowered : (n : ℕ) → map to_ascii_lowercase (replicate n 0) ≡ replicate n 0
zeros_lowered zero = refl
zeros_lowered (suc n) = ap (λ rest. 0 ∷ rest) (zeros_lowered n)
