-- Forms that no two values share, and that can be told from what follows them.
use Rattle.std.specs.Prelude.{◌≡◌, ℕ, List, ◌++◌}

-- of equal bytes that begin with a form, the value and the rest are equal
abbrev pub IsCode : {A : Type 0} → (A → List ℕ) → Type 0
IsCode {A} code = (a b : A) (s t : List ℕ) → code a ++ s ≡ code b ++ t → (a ≡ b) × (s ≡ t)
