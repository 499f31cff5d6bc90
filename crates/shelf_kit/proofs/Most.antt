-- Numbers that are at most others, and what holds of each value of a list that one comes into or goes out of.
use Rattle.std.proofs.Common.{◌≡◌, ℕ, zero, suc, ◌≤◌, List, [], ◌∷◌, get_or, take, drop, max, subst, sym, arith}
use Rattle.std.specs.Prelude.{slice_set}
use Rattle.std.specs.List.{All, insert, remove}
use Rattle.std.proofs.lemmas.List.Elements.{All-append, All-cons, All-drop, All-take}
use Rattle.shelf_kit.specs.Shelving.{AreAtMost}

module _ {X : Type 0} (P : X → Type 0) (xs : List X) (i : ℕ) (all : All P xs) where
  pub all_insert : (x : X) → P x → All P (insert xs i x)
  all_insert x here = All-append P (take i xs) (x ∷ drop i xs) (All-take P i xs all) (All-cons P x (drop i xs) here (All-drop P i xs all))

  pub all_remove : All P (remove xs i)
  all_remove = All-append P (take i xs) (drop (suc i) xs) (All-take P i xs all) (All-drop P (suc i) xs all)

-- one of them is raised
pub at_most_raised : (ns : List ℕ) (i n : ℕ) → AreAtMost ns (slice_set ns i (max (get_or ns i 0) n))
at_most_raised [] zero n k = omega arith
at_most_raised [] (suc i) n k = omega arith
at_most_raised (m ∷ ns) zero n zero = omega arith
at_most_raised (m ∷ ns) zero n (suc k) = omega arith
at_most_raised (m ∷ ns) (suc i) n zero = omega arith
at_most_raised (m ∷ ns) (suc i) n (suc k) = at_most_raised ns i n k

pub at_most_same : (ms ns : List ℕ) → ns ≡ ms → AreAtMost ms ns
at_most_same ms ns e k = subst (λ (l : List ℕ). get_or ms k 0 ≤ get_or l k 0) (sym e) (omega arith)
