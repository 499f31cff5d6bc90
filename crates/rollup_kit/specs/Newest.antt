-- The newest of values, each with a key and a time.
use Rattle.std.specs.Prelude.{ℕ, ℤ, Bool, ◌==◌, ◌&&◌, ◌||◌, nat_lt, if◌then◌else◌, List, [], ◌∷◌, Option, Some, None}
use Rattle.std.specs.declared.cmp.Ordering.{Ordering}
use Rattle.std.specs.Ordering.{is_lt}

-- a value with its key and its time
pub record Dated (K : Type 0) : Type 0 where
  pub key : K
  pub time : ℕ
  pub value : ℤ

module _ {K : Type 0} (R : K → K → Ordering) where
  -- p is before q: its time is less, or at one time its key
  abbrev pub is_before : Dated K → Dated K → Bool
  is_before p q = nat_lt p.time q.time || ((p.time == q.time) && is_lt (R p.key q.key))

  -- the later of a value and another, where there is another
  abbrev pub later : Dated K → Option (Dated K) → Dated K
  later p None = p
  later p (Some q) = if is_before p q then q else p

  -- the value of the greatest time and, at that time, the greatest key
  abbrev pub latest : List (Dated K) → Option (Dated K)
  latest [] = None
  latest (p ∷ ps) = Some (later p (latest ps))

-- its time and its value
abbrev pub as_point : {K : Type 0} → Dated K → ℕ × ℤ
as_point p = (p.time, p.value)
