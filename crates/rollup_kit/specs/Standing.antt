-- What stands for each set of attributes after a walk over some cells.
use Rattle.std.specs.Prelude.{◌≡◌, ℕ, ℤ, Bool, cond, List, map, filter, Option, Some, None}
use Rattle.std.specs.List.{list_any}
use Rattle.std.specs.Ordering.{eq_by_cmp}
use Rattle.point_kit.specs.declared.cell.Cell.{Cell}
use Rattle.point_kit.specs.declared.key.Key.{Key}
use Rattle.point_kit.specs.declared.payload.Payload.{Payload}
use Rattle.schedule_kit.specs.Rows as rows
use Rattle.rollup_kit.specs.Asks.{Attributes, attributes_cmp, asks, group}
use Rattle.rollup_kit.specs.Counts.{counts_from}
use Rattle.rollup_kit.specs.Groups.{Grouped}
use Rattle.rollup_kit.specs.Parts.{Parts, no_parts, plus_parts, parts_of}
use Rattle.rollup_kit.specs.Rollups.{newest}
use Rattle.rollup_kit.specs.Walks.{Rows, group_at}
use Rattle.rollup_kit.specs.declared.ask.Ask.{Ask}

-- a row's totals, with so many buckets
abbrev pub group_of : ℕ → rows.Row Parts → Option (ℕ × ℤ) → Grouped
group_of buckets row newest = record {
  sum = row.total.sum;
  count = row.total.count;
  buckets = counts_from 0 buckets row.total.buckets;
  span = row.total.span;
  newest = newest;
  points = row.points;
  conflicts = row.conflicts;
}

-- the row of a set of attributes among these cells
abbrev pub row_among : Ask → List (Key × Cell Payload) → Attributes → rows.Row Parts
row_among ask cells attrs = rows.rollup_row attributes_cmp no_parts plus_parts (asks ask) (group ask) parts_of cells attrs

-- some key that is asked for goes to the row of the set
abbrev pub is_row : Ask → List (Key × Cell Payload) → Attributes → Bool
is_row ask cells attrs = list_any (eq_by_cmp attributes_cmp attrs) (map (λ e. group ask e.0) (filter (λ e. asks ask e.0) cells))

-- the group of a set of attributes after these cells
abbrev pub group_after : Ask → ℕ → List (Key × Cell Payload) → Attributes → Option Grouped
group_after ask buckets cells attrs = cond (is_row ask cells attrs) (Some (group_of buckets (row_among ask cells attrs) (newest ask cells attrs))) None

-- the groups are those after these cells
abbrev pub Stands : Ask → ℕ → List (Key × Cell Payload) → Rows → Type 0
Stands ask buckets cells groups = (q : Attributes) → group_at groups q ≡ group_after ask buckets cells q

-- groups that are those after the one cells are those after the other
abbrev pub StandsFor : Ask → List (Key × Cell Payload) → List (Key × Cell Payload) → Type 0
StandsFor ask some all = (buckets : ℕ) (groups : Rows) → Stands ask buckets some groups → Stands ask buckets all groups
