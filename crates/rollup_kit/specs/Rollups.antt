-- The rows that answer an ask, of what a gateway holds and of what was recorded.
use Rattle.std.specs.Prelude.{ℕ, ℤ, ◌+◌, cond, List, map, length, Option, Some, None}
use Rattle.std.specs.List.{filter_map}
use Rattle.std.specs.Option.{option_map}
use Rattle.std.specs.FinMap.{FinMap, entries}
use Rattle.point_kit.specs.Orders.{key_cmp}
use Rattle.point_kit.specs.declared.cell.Cell.{Cell}
use Rattle.point_kit.specs.declared.cell.Held.{Held}
use Rattle.point_kit.specs.declared.cell.Held.TheVariants.{One}
use Rattle.point_kit.specs.declared.key.Key.{Key}
use Rattle.point_kit.specs.declared.payload.Payload.{Payload}
use Rattle.point_kit.specs.declared.payload.Payload.TheVariants as payloads
use Rattle.point_kit.specs.declared.shape.Shape.{Shape}
use Rattle.point_kit.specs.declared.shape.Shape.TheVariants as shapes
use Rattle.schedule_kit.specs.Rows as rows
use Rattle.rollup_kit.specs.Asks.{Attributes, attributes_cmp, asks, group}
use Rattle.rollup_kit.specs.Counts.{counts_from}
use Rattle.rollup_kit.specs.Newest.{Dated, latest, as_point}
use Rattle.rollup_kit.specs.Parts.{Parts, no_parts, plus_parts, parts_of, parts_of_value}
use Rattle.rollup_kit.specs.Extents.{range_of}
use Rattle.rollup_kit.specs.declared.ask.Ask.{Ask}
use Rattle.rollup_kit.specs.declared.row.Row.{Row}
use Rattle.rollup_kit.specs.declared.row.Total.{Total}
use Rattle.rollup_kit.specs.declared.row.Total.TheVariants.{Sum, Gauge, Hist}

-- the total of a row by the shape that is asked for; a histogram has one bucket more than bounds
abbrev pub total_of : Shape → Parts → Option (ℕ × ℤ) → Total
total_of (shapes.Sum monotonic) parts newest = Sum parts.sum
total_of shapes.Gauge parts newest = Gauge newest
total_of (shapes.Histogram bounds) parts newest = Hist parts.count parts.sum (counts_from 0 (length bounds + 1) parts.buckets) (range_of parts.span)

-- the points of these shapes add up; of gauges the newest counts
abbrev pub AddsUp : Shape → Type 0
AddsUp (shapes.Sum monotonic) = Unit {0}
AddsUp shapes.Gauge = ⊥
AddsUp (shapes.Histogram bounds) = Unit {0}

-- a row as it is answered
abbrev pub row_of : Ask → Attributes → rows.Row Parts → Option (ℕ × ℤ) → Row
row_of ask attrs row newest = record { attrs = attrs; total = total_of ask.stream.shape row.total newest; points = row.points; conflicts = row.conflicts }

-- what a cell holds, where it is the value of a gauge
abbrev pub gauge_of : Key → ℕ → Held Payload → Option (Dated Key)
gauge_of key time (One (payloads.Gauge value)) = Some (record { key = key; time = time; value = value })
gauge_of key time held = None

-- the values of gauges that a row is of
abbrev pub gauges_in : Ask → List (Key × Cell Payload) → Attributes → List (Dated Key)
gauges_in ask cells attrs =
    filter_map (λ e. cond (rows.in_row attributes_cmp no_parts plus_parts (asks ask) (group ask) attrs e.0) (gauge_of e.0 e.1.time e.1.held) None) cells

-- the time and the value of the newest of them
abbrev pub newest : Ask → List (Key × Cell Payload) → Attributes → Option (ℕ × ℤ)
newest ask cells attrs = option_map as_point (latest key_cmp (gauges_in ask cells attrs))

-- a row for each set of attributes that some key asked for comes to, in the order of the sets: the points' parts added
-- up, how many they are, and how many keys hold a conflict
unfoldable pub rollup_rows : Ask → FinMap key_cmp (Cell Payload) → List Row
rollup_rows ask state =
    map (λ e. row_of ask e.0 e.1 (newest ask (entries state) e.0))
    (entries (rows.rollup attributes_cmp no_parts plus_parts (asks ask) (group ask) parts_of state))

-- the same of recordings: values, each under the key that it feeds, added up by themselves; and the keys that are fed
unfoldable pub recorded_rows : Ask → List (Key × ℤ) → List Key → List Row
recorded_rows ask values keys =
    map (λ e. row_of ask e.0 e.1 None)
    (entries (rows.recorded attributes_cmp no_parts plus_parts (asks ask) (group ask) (map (λ v. (v.0, parts_of_value ask.stream.shape v.1)) values) keys))
