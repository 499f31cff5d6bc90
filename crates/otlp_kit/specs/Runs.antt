-- A list as its runs: the longest lists of neighbours that are alike.
use Rattle.std.specs.Prelude.{ℕ, suc, Bool, true, false, if◌then◌else◌, List, [], ◌∷◌}

module _ {A : Type 0} (alike : A → A → Bool) where
  -- whether what stands before a list goes with its first
  abbrev pub goes_on : A → List A → Bool
  goes_on x [] = false
  goes_on x (y ∷ ys) = alike x y

  -- the length of the first run
  abbrev pub run_length : List A → ℕ
  run_length [] = 0
  run_length (x ∷ xs) = if goes_on x xs then suc (run_length xs) else 1

-- what comes before runs: of the first of them, or one by itself
abbrev pub before_runs : {A : Type 0} → Bool → A → List (List A) → List (List A)
before_runs true x (r ∷ rs) = (x ∷ r) ∷ rs
before_runs true x [] = (x ∷ []) ∷ []
before_runs false x rs = (x ∷ []) ∷ rs

abbrev pub runs : {A : Type 0} → (A → A → Bool) → List A → List (List A)
runs alike [] = []
runs alike (x ∷ xs) = before_runs (goes_on alike x xs) x (runs alike xs)
