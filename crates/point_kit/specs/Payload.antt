-- Which payloads are sound in a stream of a shape.
use Rattle.std.specs.Prelude.{◌≡◌, ℕ, ℤ, pos, int_lt, ◌+◌, ◌<◌, ◌≤ℤ◌, ◌==◌, ◌||◌, ◌&&◌, not, Bool, true, false, List, Option, Some, None, length, sum}
use Rattle.point_kit.specs.declared.cell.Held.{Held}
use Rattle.point_kit.specs.declared.cell.Held.TheVariants.{One, Conflict}
use Rattle.point_kit.specs.declared.payload.Payload.{Payload}
use Rattle.point_kit.specs.declared.payload.Payload.TheVariants as payloads
use Rattle.point_kit.specs.declared.shape.Shape.{Shape}
use Rattle.point_kit.specs.declared.shape.Shape.TheVariants as shapes

-- whether a payload has buckets, which are the memory that it owns
abbrev pub has_buckets : Payload → Bool
has_buckets (payloads.Hist c s l r) = true
has_buckets p = false

-- the payload's variant is not the shape's
abbrev pub wrong_shape : Shape → Payload → Bool
wrong_shape (shapes.Sum m) (payloads.Sum v) = false
wrong_shape shapes.Gauge (payloads.Gauge v) = false
wrong_shape (shapes.Histogram b) (payloads.Hist c s l r) = false
wrong_shape s p = true

-- not one bucket more than there are bounds
abbrev pub wrong_buckets : Shape → Payload → Bool
wrong_buckets (shapes.Histogram b) (payloads.Hist c s l r) = not (length l == length b + 1)
wrong_buckets s p = false

-- the buckets do not add up to the count
abbrev pub wrong_count : Payload → Bool
wrong_count (payloads.Hist c s l r) = not (sum l == c)
wrong_count p = false

-- a sum that only rises, or that of a histogram, is below 0
abbrev pub negative : Shape → Payload → Bool
negative (shapes.Sum m) (payloads.Sum v) = m && int_lt v (pos 0)
negative (shapes.Histogram b) (payloads.Hist c s l r) = int_lt s (pos 0)
negative s p = false

-- a range of no values, or the least above the greatest
abbrev pub wrong_range_of : ℕ → Option (ℤ × ℤ) → Bool
wrong_range_of count None = false
wrong_range_of count (Some r) = (count == 0) || int_lt r.1 r.0

abbrev pub wrong_range : Payload → Bool
wrong_range (payloads.Hist c s l r) = wrong_range_of c r
wrong_range p = false

-- a range is of at least one value, and its least is at most its greatest
abbrev pub IsSoundRange : ℕ → Option (ℤ × ℤ) → Type 0
IsSoundRange count None = Unit {0}
IsSoundRange count (Some r) = (0 < count) × (r.0 ≤ℤ r.1)

-- one bucket more than bounds, buckets that add up to the count, a sum of at least 0, and a sound range
pub record IsSoundHistogram (bounds : List ℤ) (count : ℕ) (total : ℤ) (counts : List ℕ) (range : Option (ℤ × ℤ)) : Type 0 where
  pub buckets : length counts ≡ length bounds + 1
  pub counted : sum counts ≡ count
  pub not_negative : pos 0 ≤ℤ total
  pub ranged : IsSoundRange count range

-- a payload of the shape's own variant: a sum that only rises is at least 0, and a histogram is sound
abbrev pub IsSound : Shape → Payload → Type 0
IsSound (shapes.Sum true) (payloads.Sum v) = pos 0 ≤ℤ v
IsSound (shapes.Sum false) (payloads.Sum v) = Unit {0}
IsSound shapes.Gauge (payloads.Gauge v) = Unit {0}
IsSound (shapes.Histogram b) (payloads.Hist c s l r) = IsSoundHistogram b c s l r
IsSound s p = ⊥

-- what is held is a sound payload, or a conflict
abbrev pub IsSoundHeld : Shape → Held Payload → Type 0
IsSoundHeld shape (One p) = IsSound shape p
IsSoundHeld shape Conflict = Unit {0}
