-- Lists of keys in their order, each key once.
use Rattle.std.specs.Prelude.{ℕ, List, [], ◌∷◌, Bool, true, ◌&&◌, nat_eq, fold}
use Rattle.std.specs.BTreeSet.{insert_key}
use Rattle.std.specs.Cmp.Lexicographic.{slice_cmp, pointwise}
use Rattle.std.specs.List.{list_any, list_all}
use Rattle.std.specs.Ordering.{nat_cmp, is_lt}
use Rattle.std.specs.declared.cmp.Ordering.{Ordering}

-- whether each is below all that follow
abbrev pub is_rising : {K : Type 0} → (K → K → Ordering) → List K → Bool
is_rising cmp [] = true
is_rising cmp (x ∷ xs) = list_all (λ later. is_lt (cmp x later)) xs && is_rising cmp xs

-- whether a key is among the keys
abbrev pub is_listed : List (List ℕ) → List ℕ → Bool
is_listed keys key = list_any (pointwise nat_eq key) keys

-- the keys in the order of their bytes, each once
unfoldable pub listed_keys : List (List ℕ) → List (List ℕ)
listed_keys keys = fold (λ listed key. insert_key (slice_cmp nat_cmp) listed key) [] keys
