-- How the incarnations of two gateways become those of one.
use Rattle.std.specs.Prelude.{◌≡◌, ℕ, ◌+◌, ◌-◌, ◌^◌, min, IsTrue, List, [], ◌∷◌, ◌++◌, map, None, count_by}
use Rattle.std.specs.FinMap.{entries, from_sorted}
use Rattle.std.specs.FinMap.Entries.{find, is_sorted}
use Rattle.std.specs.List.{insert, list_all}
use Rattle.point_kit.specs.Equality.{payload_eq, cell_eq}
use Rattle.point_kit.specs.Join.{join_cells, join_options}
use Rattle.point_kit.specs.Orders.{key_cmp}
use Rattle.point_kit.specs.States.{join_maps}
use Rattle.gateway_kit.specs.Bringing.{Brings, is_new, is_change}
use Rattle.gateway_kit.specs.Changing.{after_growth}
use Rattle.gateway_kit.specs.Inserting.{AllPart, AreSpread, Parts, inserted}
use Rattle.gateway_kit.specs.Keys.{IncarnationKey, incarnation_cmp}
use Rattle.gateway_kit.specs.Numbers.{IncarnationsMove}
use Rattle.gateway_kit.specs.Places.{IsGap}
use Rattle.gateway_kit.specs.Tallies.{conflicts_of}
use Rattle.gateway_kit.specs.IncarnationState.{IncarnationState, Cells}
use Rattle.gateway_kit.specs.Incarnations.{all_points, keyed_cells, has_cells}
use Rattle.gateway_kit.specs.Weave.{weave}
use Rattle.gateway_kit.specs.declared.changes.Changes.{Changes}
use Rattle.gateway_kit.specs.declared.merge_draft.MergeDraft.{MergeDraft}

abbrev pub key_of : IncarnationState → IncarnationKey
key_of p = (p.writer, p.start)

-- the cells of one incarnation from two gateways
abbrev pub join_cell_maps : Cells → Cells → Cells
join_cell_maps = join_maps (join_cells payload_eq)

-- cells as changes make them
abbrev pub cells_after : Cells → Changes → Cells
cells_after cells changes = from_sorted (after_growth (entries cells) changes)

-- incarnations with new ones woven in
abbrev pub woven_incarnations : List IncarnationState → List IncarnationState → List (IncarnationKey × Cells)
woven_incarnations incarnations fresh = weave (λ x y. incarnation_cmp x.0 y.0) (map keyed_cells incarnations) (map keyed_cells fresh)

-- a number, or the greatest that 64 bits hold
abbrev pub number_within : ℕ → ℕ
number_within n = min n (2 ^ 64 - 1)

-- what came in so far, as changes of incarnations and as new incarnations
pub record MergeDrafts (olds came : List IncarnationState) (updates : List (ℕ × Changes)) (fresh : List IncarnationState) (more changed : ℕ) : Type 0 where
  pub brings : Brings incarnation_cmp join_cell_maps cells_after (map keyed_cells olds) (map keyed_cells came) updates (map keyed_cells fresh)
  pub new : more ≡ number_within (count_by (is_new key_cmp (all_points olds)) (all_points came))
  pub changes : changed ≡ number_within (count_by (is_change key_cmp (join_cells payload_eq) cell_eq (all_points olds)) (all_points came))
  pub filled : IsTrue (list_all has_cells fresh)

-- those of a draft
abbrev pub IsDraftOf : List IncarnationState → List IncarnationState → MergeDraft → Type 0
IsDraftOf olds came d = MergeDrafts olds came d.updates.items d.fresh.items d.more d.changed

-- a draft brings in what came before and then one incarnation more
abbrev pub TakesIncarnation : List IncarnationState → IncarnationState → MergeDraft → MergeDraft → Type 0
TakesIncarnation olds incarnation old new =
    (came : List IncarnationState) → find incarnation_cmp (incarnation.writer, incarnation.start) (map keyed_cells came) ≡ None → IsDraftOf olds came old
    → IsDraftOf olds (came ++ incarnation ∷ []) new

-- an incarnation was put where it belongs, behind those that came before it
pub record PutsOne (olds news : List IncarnationState) (before after : List ℕ) (one : IncarnationState) : Type 0 where
  pub place : ℕ
  pub told : after ≡ before ++ place ∷ []
  pub put : news ≡ insert olds place one
  pub gap : IsGap incarnation_cmp (map keyed_cells olds) (key_of one) place
  pub parts : Parts incarnation_cmp (map key_of olds) place (key_of one)
  pub spread : AreSpread before → AreSpread after

-- new incarnations were put where they belong, under one number
pub record PutsAll (number : ℕ) (olds news : List IncarnationState) (places : List ℕ) (fresh : List IncarnationState) : Type 0 where
  pub parts : AllPart incarnation_cmp (map key_of olds) places (map key_of fresh)
  pub put : map keyed_cells news ≡ inserted (map keyed_cells olds) places (map keyed_cells fresh)
  pub spread : AreSpread places
  pub counted : conflicts_of news ≡ conflicts_of olds + conflicts_of fresh
  pub moves : IncarnationsMove number olds news

-- each incarnation is joined with the one of its key
pub record Merges (olds news theirs : List IncarnationState) (more changed : ℕ) : Type 0 where
  pub sorted : IsTrue (is_sorted incarnation_cmp (map keyed_cells news))
  pub filled : IsTrue (list_all has_cells news)
  pub found : (k : IncarnationKey) → find incarnation_cmp k (map keyed_cells news) ≡ join_options join_cell_maps (find incarnation_cmp k (map keyed_cells olds)) (find incarnation_cmp k (map keyed_cells theirs))
  pub more_keys : more ≡ count_by (is_new key_cmp (all_points olds)) (all_points theirs)
  pub changes : changed ≡ count_by (is_change key_cmp (join_cells payload_eq) cell_eq (all_points olds)) (all_points theirs)
