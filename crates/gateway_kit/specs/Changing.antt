-- How the cells of an incarnation change.
use Rattle.std.specs.Prelude.{◌≡◌, ℕ, ◌+◌, false, cond, nat_le, nat_lt, List, [], ◌∷◌, ◌++◌, length, map, IsTrue, Option, Some, None}
use Rattle.std.specs.Prelude.{count_by, vec_capacity}
use Rattle.std.specs.FinMap.{find}
use Rattle.std.specs.FinMap.Entries.{is_sorted}
use Rattle.point_kit.specs.Join.{join_options}
use Rattle.point_kit.specs.declared.cell.Cell.{Cell}
use Rattle.point_kit.specs.declared.cell.Held.{Held}
use Rattle.point_kit.specs.declared.cell.Held.TheVariants.{One, Conflict}
use Rattle.point_kit.specs.declared.export.Export.{Export}
use Rattle.point_kit.specs.declared.payload.Payload.{Payload}
use Rattle.point_kit.specs.Join.{join_cells}
use Rattle.point_kit.specs.Equality.{payload_eq}
use Rattle.gateway_kit.specs.Amending.{with_changes}
use Rattle.gateway_kit.specs.Bringing.{Brings, is_new, is_change}
use Rattle.gateway_kit.specs.Keys.{ItemKey, item_cmp, keyed_cell_of}
use Rattle.point_kit.specs.Equality.{cell_eq}
use Rattle.gateway_kit.specs.Tallies.{rank}
use Rattle.gateway_kit.specs.Weave.{weave}
use Rattle.gateway_kit.specs.declared.changes.Changes.{Changes}
use Rattle.gateway_kit.specs.declared.draft.Draft.{Draft}
use Rattle.gateway_kit.specs.declared.part_item.PartItem.{PartItem}

abbrev pub KeyedCell : Type 0
KeyedCell = ItemKey × Cell Payload

-- a payload, or that there are several
abbrev pub held_as : Option Payload → Held Payload
held_as None = Conflict
held_as (Some p) = One p

-- what a cell becomes when another is joined in: nothing where it stays as it is
abbrev pub IsUpdate : Cell Payload → Cell Payload → Option (Cell Payload) → Type 0
IsUpdate mine theirs None = join_cells payload_eq mine theirs ≡ mine
IsUpdate mine theirs (Some cell) = (cell ≡ join_cells payload_eq mine theirs) × (cell_eq mine cell ≡ false)

-- the points of an export as entries of its incarnation
abbrev pub keyed_cells_of : Export → List KeyedCell
keyed_cells_of e = map (λ p. ((p.stream, p.attrs), record { time = e.time; held = One p.payload })) e.points

-- an update comes in place of another cell, where that is below it
abbrev pub replacement : Cell Payload → Cell Payload → Cell Payload
replacement old new = cond (nat_lt (rank old) (rank new)) new old

-- the entries with their cells updated, and the new ones woven in where there is room for them
abbrev pub after_growth : List KeyedCell → Changes → List KeyedCell
after_growth es c =
    cond (nat_le (length es + length c.fresh.items) (vec_capacity c.room))
    (weave (λ x y. item_cmp x.0 y.0) (with_changes replacement es c.updates.items) (map keyed_cell_of c.fresh.items))
    (with_changes replacement es c.updates.items)

-- items with new ones woven in, where there is room for so many
abbrev pub woven_items : List PartItem → List PartItem → ℕ → List KeyedCell
woven_items items fresh room =
    cond (nat_le (length items + length fresh) room)
    (weave (λ x y. item_cmp x.0 y.0) (map keyed_cell_of items) (map keyed_cell_of fresh))
    (map keyed_cell_of items)

-- what came in so far, as updates and new items
pub record Drafts (es came : List KeyedCell) (updates : List (ℕ × Cell Payload)) (fresh : List PartItem) : Type 0 where
  pub brings : Brings item_cmp (join_cells payload_eq) replacement es came updates (map keyed_cell_of fresh)
  pub changed : count_by (is_change item_cmp (join_cells payload_eq) cell_eq es) came ≡ length updates + length fresh
  pub new : count_by (is_new item_cmp es) came ≡ length fresh

-- the changes that bring in what came
pub record Prepares (es came : List KeyedCell) (c : Changes) : Type 0 where
  pub joined : (q : ItemKey) → find item_cmp q (after_growth es c) ≡ join_options (join_cells payload_eq) (find item_cmp q es) (find item_cmp q came)
  pub changed : count_by (is_change item_cmp (join_cells payload_eq) cell_eq es) came ≡ length c.updates.items + length c.fresh.items
  pub new : count_by (is_new item_cmp es) came ≡ length c.fresh.items

-- a draft brings in what came before and then what is told of one key more
abbrev pub TakesIn : List PartItem → ItemKey → ℕ → Option Payload → Draft → Draft → Type 0
TakesIn items key time payload old new =
    (came : List KeyedCell) → find item_cmp key came ≡ None → Drafts (map keyed_cell_of items) came old.updates.items old.fresh.items
    → Drafts (map keyed_cell_of items) (came ++ (key, record { time = time; held = held_as payload }) ∷ []) new.updates.items new.fresh.items

-- the changes bring in what a draft does
abbrev pub Finishes : List PartItem → Draft → Changes → Type 0
Finishes items draft c =
    (came : List KeyedCell) → IsTrue (is_sorted item_cmp (map keyed_cell_of items))
    → Drafts (map keyed_cell_of items) came draft.updates.items draft.fresh.items → Prepares (map keyed_cell_of items) came c
