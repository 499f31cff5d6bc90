-- The bounds of buckets.
use Rattle.std.specs.Prelude.{ℤ, pos, int_lt, nat_le, ◌&&◌, Bool, true, List, [], ◌∷◌, length, map}

-- a number below the first of a list
abbrev pub is_below_first : ℤ → List ℤ → Bool
is_below_first b [] = true
is_below_first b (c ∷ cs) = int_lt b c

-- each number is below the next
abbrev pub rise : List ℤ → Bool
rise [] = true
rise (b ∷ bs) = is_below_first b bs && rise bs

-- bounds of buckets strictly rise and are at most 1,024
unfoldable pub are_bounds : List ℤ → Bool
are_bounds bs = rise bs && nat_le (length bs) 1024

-- the bounds of a histogram for which no view says others
abbrev pub default_bounds : List ℤ
default_bounds = map pos (0 ∷ 5 ∷ 10 ∷ 25 ∷ 50 ∷ 75 ∷ 100 ∷ 250 ∷ 500 ∷ 750 ∷ 1000 ∷ 2500 ∷ 5000 ∷ 7500 ∷ 10000 ∷ [])
