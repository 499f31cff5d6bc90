-- Lists of the code as the lists that pages are defined by.
use Rattle.std.proofs.Common.{◌≡◌, ◌++◌, if◌then◌else◌, ℕ, List, map, String, string_bytes, Vec, Global}
use Rattle.gateway_kit.specs.Walks.{keyed_cell_of_ref}
use Rattle.gateway_kit.specs.declared.points.PointRef.{PointRef}
use Rattle.page_kit.specs.Bounds.{HaveBounds}
use Rattle.page_kit.specs.Families as families
use Rattle.page_kit.specs.Groups.{put}
use Rattle.page_kit.specs.Labels.{labels_cmp, conflict_labels}
use Rattle.page_kit.specs.Rows.{row}
use Rattle.page_kit.specs.Totals.{KeyedCell, is_conflict}
use Rattle.page_kit.specs.declared.families.Measured.{Measured}
use Rattle.page_kit.specs.declared.labels.Label.{Label}
use Rattle.page_kit.specs.declared.rows.Family.{Family}

-- entries with their lists
abbrev pub lists : {K A : Type 0} → List (K × Vec A Global) → List (K × List A)
lists es = map (λ e. (e.0, e.1.items)) es

-- a text has this behind it
abbrev pub Appends : String Global → String Global → List ℕ → Type 0
Appends old new more = string_bytes new ≡ string_bytes old ++ more

-- lent points as cells
abbrev pub cells : List PointRef → List KeyedCell
cells ps = map keyed_cell_of_ref ps

abbrev pub cell_lists : {K : Type 0} → List (K × Vec PointRef Global) → List (K × List KeyedCell)
cell_lists es = map (λ e. (e.0, cells e.1.items)) es

-- points by their labels, with one more where it holds a conflict
abbrev pub with_conflict : List (List Label × List PointRef) → PointRef → List (List Label × List PointRef)
with_conflict rows point =
    let e = keyed_cell_of_ref point in
    if is_conflict e then put labels_cmp rows (conflict_labels e.0, point) else rows

-- a family has the bounds that all cells of its metric ask for
abbrev pub HasBoundsOf : List KeyedCell → Family → Type 0
HasBoundsOf all family = HaveBounds family.kind (λ v. v.items) all family.bounds.now.entries

abbrev pub row_of : Family → List KeyedCell → List Label × List KeyedCell → List ℕ
row_of family all r = row family.kind family.name.now all r

-- a metric with its cells
abbrev pub with_cells : Measured → families.Measured
with_cells m = (m.metric, cells m.points.items)

abbrev pub all_measured : List Measured → List families.Measured
all_measured ms = map with_cells ms
