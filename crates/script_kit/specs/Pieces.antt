-- The pieces of a word.
use Rattle.std.specs.Prelude.{ℕ, List, [], ◌∷◌, Option, Some, None, ◌==◌, if◌then◌else◌}
use Rattle.std.specs.List.{before_first, after_first, list_any}

-- what stands before the first of these bytes and what stands after it, where there is one
unfoldable pub cut : ℕ → List ℕ → Option (List ℕ × List ℕ)
cut byte word = if list_any (λ b. b == byte) word then Some (before_first (λ b. b == byte) word, after_first (λ b. b == byte) word) else None

-- x before the rest
abbrev pub front : {A : Type 0} → A → Option (List A) → Option (List A)
front x None = None
front x (Some xs) = Some (x ∷ xs)

-- both, where both are there
abbrev pub both : {A : Type 0} → Option A → Option (List A) → Option (List A)
both None rest = None
both (Some x) rest = front x rest

-- what f gives of each, where it gives something of each
abbrev pub all_some : {A B : Type 0} → (A → Option B) → List A → Option (List B)
all_some f [] = Some []
all_some f (x ∷ xs) = both (f x) (all_some f xs)
