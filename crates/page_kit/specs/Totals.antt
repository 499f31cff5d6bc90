-- What cells come to.
use Rattle.std.specs.Prelude.{ℕ, ℤ, pos, ◌+ℤ◌, nat_lt, if◌then◌else◌, max, Bool, List, fold, Option, Some, None}
use Rattle.std.specs.List.{sum_by}
use Rattle.std.specs.Option.{option_map}
use Rattle.gateway_kit.specs.Queries.{has_conflict}
use Rattle.point_kit.specs.declared.cell.Cell.{Cell}
use Rattle.point_kit.specs.declared.cell.Held.{Held}
use Rattle.point_kit.specs.declared.cell.Held.TheVariants.{One, Conflict}
use Rattle.point_kit.specs.declared.key.Key.{Key}
use Rattle.point_kit.specs.declared.payload.Payload.{Payload}
use Rattle.point_kit.specs.declared.payload.Payload.TheVariants as payloads

-- what is held under a key
abbrev pub KeyedCell : Type 0
KeyedCell = Key × Cell Payload

abbrev pub is_conflict : KeyedCell → Bool
is_conflict e = has_conflict e.1

-- what a sum or a histogram adds to a total; a gauge and a conflict add nothing
abbrev pub sum_in : Held Payload → ℤ
sum_in (One (payloads.Sum sum)) = sum
sum_in (One (payloads.Gauge value)) = pos 0
sum_in (One (payloads.Hist count sum buckets range)) = sum
sum_in Conflict = pos 0

-- how many values a histogram is of
abbrev pub count_in : Held Payload → ℕ
count_in (One (payloads.Sum sum)) = 0
count_in (One (payloads.Gauge value)) = 0
count_in (One (payloads.Hist count sum buckets range)) = count
count_in Conflict = 0

unfoldable pub sum_of : List KeyedCell → ℤ
sum_of cells = fold (λ sum e. sum +ℤ sum_in e.1.held) (pos 0) cells

unfoldable pub count_of : List KeyedCell → ℕ
count_of cells = sum_by (λ e. count_in e.1.held) cells

-- the later of a gauge's value and one that stands behind it
abbrev pub later : Option (ℕ × ℤ) → ℕ × ℤ → ℕ × ℤ
later None point = point
later (Some held) point = if nat_lt point.0 held.0 then held else point

abbrev pub newest_with : Option (ℕ × ℤ) → ℕ → Held Payload → Option (ℕ × ℤ)
newest_with newest time (One (payloads.Sum sum)) = newest
newest_with newest time (One (payloads.Gauge value)) = Some (later newest (time, value))
newest_with newest time (One (payloads.Hist count sum buckets range)) = newest
newest_with newest time Conflict = newest

-- the value of the greatest time, and of these the last: cells stand in the order of their keys
unfoldable pub newest_of : List KeyedCell → Option ℤ
newest_of cells = option_map (λ p. p.1) (fold (λ newest e. newest_with newest e.1.time e.1.held) None cells)

-- the greatest start
unfoldable pub born : List KeyedCell → ℕ
born cells = fold (λ most e. max most e.0.start) 0 cells

-- the greatest time
unfoldable pub latest : List KeyedCell → ℕ
latest cells = fold (λ most e. max most e.1.time) 0 cells
