-- Rows as numbers.
use Rattle.std.specs.Prelude.{ℕ, ℤ, pos, ◌/◌, ◌%◌, ◌^◌, List, [], length, slice_get, Option, Some, None}
use Rattle.std.specs.Int.{cast_signed, cast_unsigned, w64, w128}
use Rattle.std.specs.Option.{is_some, unwrap_or}
use Rattle.rollup_kit.specs.declared.row.Row.{Row}
use Rattle.rollup_kit.specs.declared.row.Total.{Total}
use Rattle.rollup_kit.specs.declared.row.Total.TheVariants as totals
use Rattle.kit_c.specs.declared.fault.Fault.{Fault}
use Rattle.kit_c.specs.declared.fault.Fault.TheVariants as faults
use Rattle.kit_c.specs.declared.row.KitCount.{KitCount}
use Rattle.kit_c.specs.declared.row.KitRow.{KitRow}

-- there is no row
abbrev pub no_row : Option Row → Option Fault
no_row None = Some faults.NoRow
no_row (Some r) = None

-- there is no row of a number
abbrev pub row_fault : ℕ → List Row → Option Fault
row_fault n rs = no_row (slice_get rs n)

-- the number of a total's shape: 1 a sum, 2 a gauge, 3 a histogram
abbrev pub shape_in : Total → ℕ
shape_in (totals.Sum sum) = 1
shape_in (totals.Gauge newest) = 2
shape_in (totals.Hist count sum buckets range) = 3

-- what the values of a sum or of a histogram come to
abbrev pub sum_in : Total → ℤ
sum_in (totals.Sum sum) = sum
sum_in (totals.Gauge newest) = pos 0
sum_in (totals.Hist count sum buckets range) = sum

-- how many values a histogram is of
abbrev pub count_in : Total → ℕ
count_in (totals.Hist count sum buckets range) = count
count_in other = 0

-- the time and the value of the newest point of a gauge
abbrev pub newest_in : Total → Option (ℕ × ℤ)
newest_in (totals.Gauge newest) = newest
newest_in other = None

-- the least and the greatest value of a histogram
abbrev pub range_in : Total → Option (ℤ × ℤ)
range_in (totals.Hist count sum buckets range) = range
range_in other = None

-- how many values each bucket of a histogram has
abbrev pub buckets_in : Total → List ℕ
buckets_in (totals.Hist count sum buckets range) = buckets
buckets_in other = []

-- a number of 128 bits by its halves
abbrev pub told_count : ℕ → KitCount
told_count n = record { high = n / 2 ^ 64; low = n % 2 ^ 64 }

-- the same of one that may be below 0: the high half may be
abbrev pub high_of : ℤ → ℤ
high_of z = cast_signed w64 (told_count (cast_unsigned w128 z)).high

abbrev pub low_of : ℤ → ℕ
low_of z = (told_count (cast_unsigned w128 z)).low

-- a row as numbers
abbrev pub told_row : Row → KitRow
told_row r = record {
  points = r.points;
  conflicts = r.conflicts;
  sum_high = high_of (sum_in r.total);
  sum_low = low_of (sum_in r.total);
  count_high = (told_count (count_in r.total)).high;
  count_low = (told_count (count_in r.total)).low;
  time = (unwrap_or (newest_in r.total) (0, pos 0)).0;
  value = (unwrap_or (newest_in r.total) (0, pos 0)).1;
  least = (unwrap_or (range_in r.total) (pos 0, pos 0)).0;
  greatest = (unwrap_or (range_in r.total) (pos 0, pos 0)).1;
  buckets = length (buckets_in r.total);
  shape = shape_in r.total;
  has_value = is_some (newest_in r.total);
  has_range = is_some (range_in r.total);
}
