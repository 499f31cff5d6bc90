-- A value that is turned in among others of a list, which stand in front of it.
use Rattle.std.specs.Prelude.{⊤, ◌≡◌, ℕ, ◌+◌, ◌≤◌, List, [], ◌∷◌, ◌++◌, length, take, drop, slice_index_or}
use Rattle.std.specs.declared.cmp.Ordering.TheVariants.{Less}
use Rattle.std.specs.declared.cmp.Ordering.{Ordering}
use Rattle.gateway_kit.specs.Weave.{weave}

-- each of a list is below a value
abbrev pub AllBelow : {A : Type 0} → (A → A → Ordering) → A → List A → Type 0
AllBelow R y [] = ⊤
AllBelow R y (x ∷ xs) = (R x y ≡ Less) × AllBelow R y xs

-- a value behind so many of the first list's and so many of the second's was turned in: then fewer of the first stand in front, all of the
-- second's but that one behind them, and woven they go before what stands behind as they did
pub record IsTurnedIn {A : Type 0} (R : A → A → Ordering) (above left : ℕ) (old : List A) (front : ℕ) (new : List A) : Type 0 where
  pub first : take front new ≡ take front old
  pub second : take left (drop front new) ≡ take left (drop above old)
  pub long : front + left ≤ length new
  pub woven : (d : A) → AllBelow R (slice_index_or old (above + left) d) (take left (drop above old))
      → weave R (take above old) (take (left + 1) (drop above old)) ++ drop (above + left + 1) old
      ≡ weave R (take front old) (take left (drop above old)) ++ drop (front + left) new
