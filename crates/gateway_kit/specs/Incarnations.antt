-- The incarnations of a gateway: how its incarnations make its points.
use Rattle.std.specs.Prelude.{◌≡◌, ◌≤◌, ◌^◌, ℕ, Bool, true, false, IsTrue, Option, Some, None, List, [], ◌∷◌, ◌++◌, map, filter, nat_lt, length}
use Rattle.std.specs.FinMap.Entries.{is_sorted}
use Rattle.std.specs.List.{list_all}
use Rattle.std.specs.declared.cmp.Ordering.{Ordering}
use Rattle.std.specs.FinMap.{FinMap, entries}
use Rattle.point_kit.specs.declared.cell.Cell.{Cell}
use Rattle.point_kit.specs.declared.key.Key.{Key}
use Rattle.point_kit.specs.declared.payload.Payload.{Payload}
use Rattle.gateway_kit.specs.Keys.{IncarnationKey, incarnation_cmp, whole_key}
use Rattle.gateway_kit.specs.IncarnationState.{IncarnationState, Cells, Numbers}

-- the entries of a map, none where there is no map
abbrev pub entries_at : {B V : Type 0} {S : B → B → Ordering} → Option (FinMap S V) → List (B × V)
entries_at None = []
entries_at (Some m) = entries m

-- the entries of all incarnations, one incarnation after another, each under its whole key
abbrev pub flatten : {A B K V : Type 0} {S : B → B → Ordering} → (A → B → K) → List (A × FinMap S V) → List (K × V)
flatten key [] = []
flatten key (incarnation ∷ incarnations) = map (λ e. (key incarnation.0 e.0, e.1)) (entries incarnation.1) ++ flatten key incarnations

-- an incarnation's key, with its cells
abbrev pub keyed_cells : IncarnationState → IncarnationKey × Cells
keyed_cells p = ((p.writer, p.start), p.cells)

-- and with its numbers
abbrev pub keyed_numbers : IncarnationState → IncarnationKey × Numbers
keyed_numbers p = ((p.writer, p.start), p.numbers)

-- the points of all incarnations, in the order of their keys where the incarnations are in order
abbrev pub all_points : List IncarnationState → List (Key × Cell Payload)
all_points incarnations = flatten whole_key (map keyed_cells incarnations)

-- the numbers of all incarnations that are above 0, in that order
abbrev pub all_numbers : List IncarnationState → List (Key × ℕ)
all_numbers incarnations = filter (λ e. nat_lt 0 e.1) (flatten whole_key (map keyed_numbers incarnations))

-- whether a list has an element
abbrev pub has_some : {A : Type 0} → List A → Bool
has_some [] = false
has_some (x ∷ xs) = true

-- whether an incarnation has a cell
abbrev pub has_cells : IncarnationState → Bool
has_cells p = has_some (entries p.cells)

-- incarnations in order, none of them without cells, and how many cells they have together
pub record IsWhole (incarnations : List IncarnationState) (len : ℕ) : Type 0 where
  pub sorted : IsTrue (is_sorted incarnation_cmp (map keyed_cells incarnations))
  pub filled : IsTrue (list_all has_cells incarnations)
  pub counted : len ≡ length (all_points incarnations)
  pub bounded : len ≤ 2 ^ 62
