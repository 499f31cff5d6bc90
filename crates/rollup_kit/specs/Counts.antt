-- Counts by their places.
use Rattle.std.specs.Prelude.{ℕ, zero, suc, ◌+◌, List, [], ◌∷◌}

-- the counts of so many places, from one on
abbrev pub counts_from : ℕ → ℕ → (ℕ → ℕ) → List ℕ
counts_from place zero count = []
counts_from place (suc n) count = count place ∷ counts_from (place + 1) n count

-- the counts from a place on, each with one more count added
abbrev pub add_each : ℕ → List ℕ → (ℕ → ℕ) → List ℕ
add_each place [] count = []
add_each place (n ∷ ns) count = (n + count place) ∷ add_each (place + 1) ns count
