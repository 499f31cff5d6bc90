-- How many points a stream has, where its series has few.
use Rattle.std.proofs.Common.{◌≡◌, ℕ, zero, suc, ◌≤◌, List, [], ◌∷◌, Option, length, subst, sym}
use Rattle.std.specs.Prelude.{IfSome, slice_get, slice_index_or}
use Rattle.std.specs.Option.{option_map}

by_place : {A : Type 0} (n : ℕ) (xss : List (List A)) (m : ℕ) → length (slice_index_or xss m []) ≤ n → IfSome (option_map (λ (l : List A). length l) (slice_get xss m)) (λ k. k ≤ n)
by_place n [] m few = tt
by_place n (xs ∷ xss) zero few = few
by_place n (xs ∷ xss) (suc m) few = by_place n xss m few

pub few_points : {A : Type 0} (n : ℕ) (xss : List (List A)) (m : ℕ) (o : Option ℕ) → o ≡ option_map (λ (l : List A). length l) (slice_get xss m) → length (slice_index_or xss m []) ≤ n → IfSome o (λ k. k ≤ n)
few_points n xss m o is few = subst (λ (p : Option ℕ). IfSome p (λ k. k ≤ n)) (sym is) (by_place n xss m few)
