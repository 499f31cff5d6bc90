-- What a walk over points does to the groups so far.
use Rattle.std.specs.Prelude.{◌≡◌, ℕ, ◌+◌, ◌<◌, ◌^◌, List, length, cond, true, Option, Some, is_some, unwrap_or, IfSome}
use Rattle.std.specs.Option.{option_map}
use Rattle.std.specs.Map.{lookup}
use Rattle.std.specs.Ordering.{eq_by_cmp}
use Rattle.attr_kit.specs.Attributes.{AreAttributes}
use Rattle.attr_kit.specs.Keeping.{kept}
use Rattle.attr_kit.specs.declared.keep.Keep.TheVariants.{Only}
use Rattle.point_kit.specs.declared.cell.Cell.{Cell}
use Rattle.point_kit.specs.declared.key.Key.{Key}
use Rattle.point_kit.specs.declared.payload.Payload.{Payload}
use Rattle.point_kit.specs.declared.shape.Shape.{Shape}
use Rattle.point_kit.specs.declared.shape.Shape.TheVariants as shapes
use Rattle.schedule_kit.specs.Rows.{in_row}
use Rattle.rollup_kit.specs.Places.{Show}
use Rattle.rollup_kit.specs.Asks.{Attributes, attributes_cmp, asks, group}
use Rattle.rollup_kit.specs.Groups.{Grouped, no_group, with_held}
use Rattle.rollup_kit.specs.Parts.{no_parts, plus_parts}
use Rattle.rollup_kit.specs.Extents.{range_of}
use Rattle.rollup_kit.specs.declared.ask.Ask.{Ask}
use Rattle.rollup_kit.specs.declared.row.Row.{Row}
use Rattle.rollup_kit.specs.declared.row.Total.{Total}
use Rattle.rollup_kit.specs.declared.row.Total.TheVariants.{Sum, Gauge, Hist}

-- the groups so far, each under its set of attributes
abbrev pub Rows : Type 0
Rows = List (Attributes × Grouped)

-- the group of a set of attributes
abbrev pub group_at : Rows → Attributes → Option Grouped
group_at rows q = lookup (eq_by_cmp attributes_cmp q) rows

-- one point more can be counted in each group
abbrev pub HasRoom : Rows → Type 0
HasRoom rows = (q : Attributes) → IfSome (group_at rows q) (λ g. (g.points + 1 < 2 ^ 64) × (g.conflicts + 1 < 2 ^ 64))

-- the cell is added to the group of the set, if there is one
abbrev pub AddsHeld : Attributes → Cell Payload → Rows → Rows → Type 0
AddsHeld attrs cell old new = (q : Attributes) → group_at new q ≡ cond (eq_by_cmp attributes_cmp q attrs) (option_map (λ g. with_held g cell.time cell.held) (group_at old q)) (group_at old q)

-- the cell is added to the group of the set, or to a new one
abbrev pub AddsTo : ℕ → Attributes → Cell Payload → Rows → Rows → Type 0
AddsTo buckets attrs cell old new = (q : Attributes) → group_at new q ≡ cond (eq_by_cmp attributes_cmp q attrs) (Some (with_held (unwrap_or (group_at old q) (no_group buckets)) cell.time cell.held)) (group_at old q)

-- the cell is added to the group that is there of the set that these places of the pairs show
abbrev pub AddsShown : Attributes → List ℕ → Cell Payload → Rows → Rows → Type 0
AddsShown pairs places cell old new =
    (attrs : Attributes) × AreAttributes attrs × Show pairs places attrs × (is_some (group_at old attrs) ≡ true) × AddsHeld attrs cell old new

-- the cell is added to the group of what an allow-list keeps of a set, however many buckets a new one had
abbrev pub AddsKept : List (List ℕ) → Attributes → Cell Payload → Rows → Rows → Type 0
AddsKept keys attrs cell old new = (buckets : ℕ) → AddsTo buckets (kept (Only keys) attrs) cell old new

-- the same of the point's own row, where it is asked for
abbrev pub Adds : Ask → ℕ → Key × Cell Payload → Rows → Rows → Type 0
Adds ask buckets e old new = (q : Attributes) → group_at new q
    ≡ cond (in_row attributes_cmp no_parts plus_parts (asks ask) (group ask) q e.0) (Some (with_held (unwrap_or (group_at old q) (no_group buckets)) e.1.time e.1.held)) (group_at old q)

-- how many buckets a row has
abbrev pub buckets_of : Shape → ℕ
buckets_of (shapes.Sum monotonic) = 0
buckets_of shapes.Gauge = 0
buckets_of (shapes.Histogram bounds) = length bounds + 1

-- a group as a total, and as a row
abbrev pub total_read : Shape → Grouped → Total
total_read (shapes.Sum monotonic) g = Sum g.sum
total_read shapes.Gauge g = Gauge g.newest
total_read (shapes.Histogram bounds) g = Hist g.count g.sum g.buckets (range_of g.span)

abbrev pub row_read : Shape → Attributes → Grouped → Row
row_read shape attrs g = record { attrs = attrs; total = total_read shape g; points = g.points; conflicts = g.conflicts }
