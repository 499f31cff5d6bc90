-- How the incarnations of a gateway grow by what comes of one incarnation.
use Rattle.std.specs.Prelude.{◌≡◌, ℕ, ◌+◌, IsTrue, cond, List, [], ◌∷◌, map, Some, count_by}
use Rattle.std.specs.FinMap.{entries, from_sorted}
use Rattle.std.specs.FinMap.Entries.{find, is_sorted}
use Rattle.std.specs.List.{list_all}
use Rattle.std.specs.Ordering.{eq_by_cmp}
use Rattle.point_kit.specs.Exports.{Points, join_points, changed_points}
use Rattle.point_kit.specs.Join.{join_cells}
use Rattle.point_kit.specs.Orders.{key_cmp}
use Rattle.point_kit.specs.Equality.{payload_eq}
use Rattle.point_kit.specs.Join.{join_options}
use Rattle.gateway_kit.specs.Bringing.{is_new, is_change}
use Rattle.gateway_kit.specs.Changing.{KeyedCell}
use Rattle.gateway_kit.specs.Keys.{IncarnationKey, ItemKey, incarnation_cmp, item_cmp}
use Rattle.gateway_kit.specs.IncarnationState.{IncarnationState, Cells}
use Rattle.gateway_kit.specs.Incarnations.{IsWhole, all_points, keyed_cells, has_cells, entries_at}
use Rattle.gateway_kit.specs.Places.{IsAt}
use Rattle.gateway_kit.specs.Tallies.{Tells}
use Rattle.point_kit.specs.Equality.{cell_eq}
use Rattle.point_kit.specs.declared.cell.Cell.{Cell}
use Rattle.point_kit.specs.declared.payload.Payload.{Payload}
use Rattle.gateway_kit.specs.declared.growth.Growth.{Growth}

-- the entries of the incarnation under a key
abbrev pub cells_at : IncarnationKey → List IncarnationState → List KeyedCell
cells_at key incarnations = entries_at (find incarnation_cmp key (map keyed_cells incarnations))

-- entries after others came in, how many keys are new and how many changed
pub record Joins (olds news came : List KeyedCell) (more changed : ℕ) : Type 0 where
  pub joined : (b : ItemKey) → find item_cmp b news ≡ join_options (join_cells payload_eq) (find item_cmp b olds) (find item_cmp b came)
  pub more_keys : more ≡ count_by (is_new item_cmp olds) came
  pub changes : changed ≡ count_by (is_change item_cmp (join_cells payload_eq) cell_eq olds) came

-- an incarnation's entries after others came in
abbrev pub IncarnationJoins : IncarnationState → IncarnationState → List KeyedCell → Growth → Type 0
IncarnationJoins old new came g = Joins (entries old.cells) (entries new.cells) came g.more g.changed

-- whatever key stands at a place, its cell is joined with one that came
abbrev pub JoinsAt : IncarnationState → IncarnationState → ℕ → Cell Payload → Growth → Type 0
JoinsAt old new place cell g = (key : ItemKey) → IsAt item_cmp (entries old.cells) key place → IncarnationJoins old new ((key, cell) ∷ []) g

-- the incarnation under a key is joined with what came, and all others stay
pub record Grows (olds news : List IncarnationState) (key : IncarnationKey) (came : List KeyedCell) (more changed : ℕ) : Type 0 where
  pub sorted : IsTrue (is_sorted incarnation_cmp (map keyed_cells news))
  pub filled : IsTrue (list_all has_cells news)
  pub cells : Cells
  pub found : (k : IncarnationKey) → find incarnation_cmp k (map keyed_cells news) ≡ cond (eq_by_cmp incarnation_cmp k key) (Some cells) (find incarnation_cmp k (map keyed_cells olds))
  pub joined : (b : ItemKey) → find item_cmp b (entries cells) ≡ join_options (join_cells payload_eq) (find item_cmp b (cells_at key olds)) (find item_cmp b came)
  pub more_keys : more ≡ count_by (is_new item_cmp (cells_at key olds)) came
  pub changes : changed ≡ count_by (is_change item_cmp (join_cells payload_eq) cell_eq (cells_at key olds)) came

-- incarnations with so many points are joined with points
pub record GrowsBy (olds news : List IncarnationState) (len : ℕ) (points : Points) (g : Growth) : Type 0 where
  pub whole : IsWhole news (len + g.more)
  pub joins : from_sorted {R = key_cmp} (all_points news) ≡ join_points (from_sorted (all_points olds)) points
  pub changes : g.changed ≡ changed_points (from_sorted (all_points olds)) (from_sorted (all_points news))
  pub tells : Tells olds news g.before g.after
