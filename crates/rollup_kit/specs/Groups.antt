-- The groups of a roll-up while its points are walked over.
use Rattle.std.specs.Prelude.{ℕ, ℤ, pos, ◌+◌, ◌*◌, ◌^◌, ◌+ℤ◌, ◌-ℤ◌, ◌≤ℤ◌, ◌≤◌, nat_lt, if◌then◌else◌, List, slice_index, Option, Some, None}
use Rattle.point_kit.specs.declared.cell.Held.{Held}
use Rattle.point_kit.specs.declared.cell.Held.TheVariants.{One, Conflict}
use Rattle.point_kit.specs.declared.payload.Payload.{Payload}
use Rattle.point_kit.specs.declared.payload.Payload.TheVariants as payloads
use Rattle.rollup_kit.specs.Counts.{counts_from, add_each}
use Rattle.rollup_kit.specs.Extents.{span_of, join_spans}
use Rattle.rollup_kit.specs.declared.extent.Extent.{Extent}
use Rattle.rollup_kit.specs.declared.extent.Extent.TheVariants.{Empty}

-- what the points of a row come to
pub record Grouped : Type 0 where
  pub sum : ℤ
  pub count : ℕ
  pub buckets : List ℕ
  pub span : Extent
  pub newest : Option (ℕ × ℤ)
  pub points : ℕ
  pub conflicts : ℕ

-- no total is further from 0 than so many points can bring it
pub record IsBounded (sum : ℤ) (count : ℕ) (buckets : List ℕ) (points : ℕ) : Type 0 where
  pub above : (pos 0 -ℤ pos (points * 2 ^ 63)) ≤ℤ sum
  pub below : sum ≤ℤ pos (points * 2 ^ 63)
  pub counts : count ≤ points * 2 ^ 64
  pub each : (place : ℕ) → slice_index buckets place ≤ points * 2 ^ 64

-- no points, and so many buckets
abbrev pub no_group : ℕ → Grouped
no_group buckets = record { sum = pos 0; count = 0; buckets = counts_from 0 buckets (λ _. 0); span = Empty; newest = None; points = 0; conflicts = 0 }

-- the newest of a value and one of a greater key
abbrev pub later_value : Option (ℕ × ℤ) → ℕ × ℤ → ℕ × ℤ
later_value None point = point
later_value (Some held) point = if nat_lt point.0 held.0 then held else point

-- one more point: of a sum, of a gauge, of a histogram
abbrev pub with_sum : Grouped → ℤ → Grouped
with_sum g sum = record g { sum = g.sum +ℤ sum; points = g.points + 1 }

abbrev pub with_value : Grouped → ℕ → ℤ → Grouped
with_value g time value = record g { newest = Some (later_value g.newest (time, value)); points = g.points + 1 }

abbrev pub with_histogram : Grouped → ℕ → ℤ → List ℕ → Option (ℤ × ℤ) → Grouped
with_histogram g count sum buckets range = record g {
  sum = g.sum +ℤ sum;
  count = g.count + count;
  buckets = add_each 0 g.buckets (slice_index buckets);
  span = join_spans g.span (span_of count range);
  points = g.points + 1;
}

abbrev pub with_payload : Grouped → ℕ → Payload → Grouped
with_payload g time (payloads.Sum sum) = with_sum g sum
with_payload g time (payloads.Gauge value) = with_value g time value
with_payload g time (payloads.Hist count sum buckets range) = with_histogram g count sum buckets range

-- what is held under one more key
abbrev pub with_held : Grouped → ℕ → Held Payload → Grouped
with_held g time (One payload) = with_payload g time payload
with_held g time Conflict = record g { conflicts = g.conflicts + 1 }
