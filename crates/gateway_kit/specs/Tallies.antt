-- What is kept beside items and beside incarnations: the greatest time, and how many cells are conflicts.
use Rattle.std.specs.Prelude.{◌≡◌, ℕ, ◌+◌, ◌≤◌, Bool, cond, nat_le, IsTrue, List, map, count_by}
use Rattle.std.specs.List.{list_all, sum_by}
use Rattle.std.specs.FinMap.{entries}
use Rattle.std.specs.FinMap.Entries.{is_sorted}
use Rattle.point_kit.specs.declared.cell.Cell.{Cell}
use Rattle.point_kit.specs.declared.payload.Payload.{Payload}
use Rattle.gateway_kit.specs.Bounding.{AreBounds}
use Rattle.gateway_kit.specs.Keys.{ItemKey, keyed_cell_of, item_cmp}
use Rattle.gateway_kit.specs.IncarnationState.{IncarnationState}
use Rattle.gateway_kit.specs.Queries.{has_conflict}
use Rattle.gateway_kit.specs.Times.{latest}
use Rattle.gateway_kit.specs.declared.bounds.Bounds.{Bounds}
use Rattle.gateway_kit.specs.declared.part_item.PartItem.{PartItem}
use Rattle.gateway_kit.specs.declared.tally.Tally.{Tally}

-- 1 of a conflict, else 0
abbrev pub conflict : Cell Payload → ℕ
conflict cell = cond (has_conflict cell) 1 0

-- how far a cell has come: a later one is further, and of one time a conflict
abbrev pub rank : Cell Payload → ℕ
rank c = c.time + c.time + conflict c

-- how many entries are conflicts
abbrev pub conflicts_in : {K : Type 0} → List (K × Cell Payload) → ℕ
conflicts_in es = count_by (λ e. has_conflict e.1) es

-- a tally of entries
pub record IsTally (es : List (ItemKey × Cell Payload)) (tally : Tally) : Type 0 where
  pub newest : tally.newest ≡ latest es
  pub conflicts : tally.conflicts ≡ conflicts_in es

-- whether no item has a greater number
abbrev pub are_up_to : ℕ → List PartItem → Bool
are_up_to number items = list_all (λ i. nat_le i.number number) items

-- items in the order of their keys, their tally, a number that none exceeds, and bounds by their places
pub record IsKept (items : List PartItem) (tally : Tally) (number : ℕ) (bounds : Bounds) : Type 0 where
  pub sorted : IsTrue (is_sorted item_cmp (map keyed_cell_of items))
  pub tallied : IsTally (map keyed_cell_of items) tally
  pub up_to : IsTrue (are_up_to number items)
  pub bounded : AreBounds bounds items

-- how many cells of an incarnation are conflicts
abbrev pub incarnation_conflicts : IncarnationState → ℕ
incarnation_conflicts p = conflicts_in (entries p.cells)

-- how many cells of all incarnations are
abbrev pub conflicts_of : List IncarnationState → ℕ
conflicts_of incarnations = sum_by incarnation_conflicts incarnations

-- of one change, the conflicts of what changes before and after it
pub record Tells (olds news : List IncarnationState) (before after : ℕ) : Type 0 where
  pub all : conflicts_of news + before ≡ conflicts_of olds + after
  pub among : before ≤ conflicts_of olds
