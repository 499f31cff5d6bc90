-- Two lists in one order, as one.
use Rattle.std.specs.Prelude.{◌≡◌, ℕ, ◌+◌, ◌<◌, List, [], ◌∷◌, ◌++◌, length, take, drop, Option, Some, None, slice_index_or}
use Rattle.std.specs.List.Sorted.{IsNonDecreasingBy}
use Rattle.std.specs.Ordering.{ordering_index}
use Rattle.std.specs.declared.cmp.Ordering.TheVariants.{Less}
use Rattle.std.specs.declared.cmp.Ordering.{Ordering}
use Rattle.std.specs.FinMap.Entries.{by_order}

module _ {A : Type 0} (R : A → A → Ordering) where
  -- x and what follows it (of which `rest` is the weave with any list) with a list
  abbrev pub weave_one : A → List A → (List A → List A) → List A → List A
  weave_one x xs rest [] = x ∷ xs
  weave_one x xs rest (y ∷ ys) = by_order (R x y) (x ∷ rest (y ∷ ys)) (x ∷ rest ys) (y ∷ weave_one x xs rest ys)

  -- of two that tie, that of the first list
  abbrev pub weave : List A → List A → List A
  weave [] ys = ys
  weave (x ∷ xs) ys = weave_one x xs (weave xs) ys

-- how the first of a list compares with a value
abbrev pub front_order : {A : Type 0} → (A → A → Ordering) → List A → A → Option Ordering
front_order R [] y = None
front_order R (x ∷ xs) y = Some (R x y)

-- what was moved from the front of one list to the end of another goes before a value, whatever follows it
abbrev pub MovedBefore : {A : Type 0} → (A → A → Ordering) → A → List A → List A → List A → List A → Type 0
MovedBefore {A} R y room xs room_after xs_after = (ys : List A) → room_after ++ weave R xs_after (y ∷ ys) ≡ room ++ weave R xs (y ∷ ys)

-- a value was woven in, whatever follows it
abbrev pub IsWoven : {A : Type 0} → (A → A → Ordering) → A → List A → List A → List A → List A → Type 0
IsWoven {A} R y room xs room_after xs_after = (ys : List A) → room_after ++ weave R xs_after ys ≡ room ++ weave R xs (y ∷ ys)

-- so many of a list go before a value, whatever follows it
abbrev pub GoBefore : {A : Type 0} → (A → A → Ordering) → ℕ → List A → A → Type 0
GoBefore {A} R count xs y = (ys : List A) → weave R xs (y ∷ ys) ≡ take count xs ++ weave R (drop count xs) (y ∷ ys)

-- the order of values is that of their keys
abbrev pub by_key : {A K V : Type 0} → (K → K → Ordering) → (A → K × V) → A → A → Ordering
by_key R entry x y = R (entry x).0 (entry y).0

-- each value is below the next
abbrev pub Rises : {A : Type 0} → (A → A → Ordering) → List A → Type 0
Rises {A} R xs = (k : ℕ) (d : A) → k + 1 < length xs → R (slice_index_or xs k d) (slice_index_or xs (k + 1) d) ≡ Less

-- where the answers to a key do not fall along a list, all before a place are below it
abbrev pub AreBelow : {A : Type 0} → (A → A → Ordering) → List A → A → ℕ → Type 0
AreBelow {A} R xs key place = IsNonDecreasingBy (λ y. ordering_index (R y key)) xs → (k : ℕ) (d : A) → k < place → R (slice_index_or xs k d) key ≡ Less
