-- Vectors that are taken apart, one value after the other.
use Rattle.std.proofs.Common.{◌≡◌, ℕ, ◌+◌, List, [], ◌∷◌, length, refl, ap, sym, ◌∙◌, arith}

nothing_long : {A : Type 0} (xs : List A) → length xs ≡ 0 → xs ≡ []
nothing_long [] e = refl
nothing_long (x ∷ xs) e = absurd (omega arith)

-- what is left, and how many
pub ended : {A : Type 0} (items : List A) (len : ℕ) → len ≡ length items → len ≡ 0 → items ≡ []
ended items len e none = nothing_long items (sym e ∙ none)

pub went_on : {A : Type 0} (items left : List A) (x : A) (len next : ℕ) → len ≡ length items → items ≡ x ∷ left → next + 1 ≡ len → next ≡ length left
went_on items left x len next e first more = let all : length items ≡ length (x ∷ left) = ap length first in omega arith
