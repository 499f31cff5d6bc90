-- What is true of every page.
use Rattle.std.specs.Prelude.{◌≡◌, ℕ, false, List, [], ◌∷◌, ◌++◌}
use Rattle.std.specs.List.Sorted.{IsStrictlySortedBy}
use Rattle.std.specs.Map.{keys_of}
use Rattle.page_kit.specs.Families.{Measured, is_claimed, own_names, shown_after, ranked, metrics_of}
use Rattle.page_kit.specs.Labels.{labels_cmp}
use Rattle.page_kit.specs.Metrics.{claims}
use Rattle.page_kit.specs.Rows.{rows}
use Rattle.page_kit.specs.Totals.{KeyedCell}

-- the labels of a family's rows differ, and stand in their order
abbrev pub RowsDiffer : Type 0
RowsDiffer = (cells : List KeyedCell) → IsStrictlySortedBy labels_cmp (keys_of (rows cells))

-- no metric claims a name that is claimed, or that one before it claims
abbrev pub AreDisjoint : List (List ℕ) → List Measured → Type 0
AreDisjoint claimed [] = Unit {0}
AreDisjoint claimed (m ∷ ms) = (is_claimed claimed m ≡ false) × AreDisjoint (claims m.0 ++ claimed) ms

-- the metrics that are shown claim names that differ, and none of the kit's own
abbrev pub FamiliesDiffer : Type 0
FamiliesDiffer = (cells : List KeyedCell) → AreDisjoint own_names (shown_after own_names (ranked (metrics_of cells)))
