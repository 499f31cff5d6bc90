-- Items that are written into a room, one after the other.
use Rattle.std.proofs.Common.{◌≡◌, ◌<◌, ◌≤◌, ℕ, zero, suc, List, [], ◌∷◌, ◌++◌, map, take, drop, length, get_or, refl, ap, arith}
use Rattle.std.specs.Prelude.{slice_set}
use Rattle.kit_c.specs.Calls.{filled}

module _ {X Y : Type 0} (f : X → Y) where
  -- one more
  pub written : (xs : List X) (ys : List Y) (i : ℕ) (d : X) → i < length xs → i < length ys
      → slice_set (map f (take i xs) ++ drop i ys) i (f (get_or xs i d)) ≡ map f (take (suc i) xs) ++ drop (suc i) ys
  written [] ys i d a b = absurd (omega (arith, a))
  written (x ∷ xs) [] i d a b = absurd (omega (arith, b))
  written (x ∷ xs) (y ∷ ys) zero d a b = refl
  written (x ∷ xs) (y ∷ ys) (suc i) d a b = ap (λ l. f x ∷ l) (written xs ys i d (omega (arith, a)) (omega (arith, b)))

  -- all that there are, or that have room
  pub front : (xs : List X) (ys : List Y) (n : ℕ) → n ≤ length xs → n ≤ length ys → (n < length xs → n ≡ length ys)
      → map f (take n xs) ++ drop n ys ≡ filled (map f xs) ys
  front [] [] zero a b full = refl
  front [] (y ∷ ys) zero a b full = refl
  front [] ys (suc n) a b full = absurd (omega (arith, a))
  front (x ∷ xs) [] zero a b full = refl
  front (x ∷ xs) [] (suc n) a b full = absurd (omega (arith, b))
  front (x ∷ xs) (y ∷ ys) zero a b full = absurd (omega (arith, full (omega arith)))
  front (x ∷ xs) (y ∷ ys) (suc n) a b full =
      ap (λ l. f x ∷ l) (front xs ys n (omega (arith, a)) (omega (arith, b)) (λ l. omega (arith, full (omega (arith, l)))))
