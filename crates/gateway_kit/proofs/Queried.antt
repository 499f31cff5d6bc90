-- The points of an incarnation are those under its key.
use Rattle.std.proofs.Common.{◌≡◌, true, false, cond, List, [], ◌∷◌, ◌++◌, map, filter, get_or, ℕ, Some, None, refl, sym, ap, subst, ◌∙◌, append-nil}
use mathlib.Core.List.{map-map}
use Rattle.std.specs.Prelude.{T}
use Rattle.std.specs.Cmp.{Equal-is}
use Rattle.std.specs.FinMap.{entries, from_sorted}
use Rattle.std.specs.FinMap.Entries.{find, is_sorted, below_all}
use Rattle.std.specs.Ordering.{eq_by_cmp, is_eq}
use Rattle.point_kit.specs.Orders.{key_cmp}
use Rattle.point_kit.specs.declared.cell.Cell.{Cell}
use Rattle.point_kit.specs.declared.key.Key.{Key}
use Rattle.point_kit.specs.declared.payload.Payload.{Payload}
use Rattle.gateway_kit.specs.Changing.{KeyedCell}
use Rattle.gateway_kit.specs.Growth.{cells_at}
use Rattle.gateway_kit.specs.Keys.{IncarnationKey, incarnation_cmp, whole_key}
use Rattle.gateway_kit.specs.IncarnationState.{IncarnationState}
use Rattle.gateway_kit.specs.Incarnations.{all_points, keyed_cells, entries_at, has_some}
use Rattle.gateway_kit.specs.Places.{IsAt, IsGap}
use Rattle.gateway_kit.specs.Queries.{is_of_incarnation, incarnation_points}
use Rattle.gateway_kit.specs.Times.{greatest, latest}
use Rattle.gateway_kit.proofs.Drafting.{found_place}
use Rattle.gateway_kit.proofs.Entries.{as_T, first, second, less, below_tied}
use Rattle.gateway_kit.proofs.Joining.{under, entries_points}
use Rattle.gateway_kit.specs.KeyOrders.{incarnation_total, incarnation_exact}
use Rattle.gateway_kit.proofs.Served.{filter_own}
use Rattle.gateway_kit.proofs.Times.{some_latest}

module _ (a : IncarnationKey) where
  -- incarnations above the key have none of its points
  none_above : (ps : List IncarnationState) → T (below_all incarnation_cmp a (map keyed_cells ps)) → filter (λ e. is_of_incarnation a.0 a.1 e.0) (all_points ps) ≡ []
  none_above [] h = refl
  none_above (p ∷ ps) h =
      filter_own (λ b. eq_by_cmp incarnation_cmp a b) (p.writer, p.start) (entries p.cells) (all_points ps)
      ∙ ap (λ b. cond b (under (p.writer, p.start) (entries p.cells)) [] ++ filter (λ e. is_of_incarnation a.0 a.1 e.0) (all_points ps)) (ap is_eq (less _ (first _ _ h)))
      ∙ none_above ps (second _ _ h)

  pub listed_incarnation : (ps : List IncarnationState) → T (is_sorted incarnation_cmp (map keyed_cells ps)) → filter (λ e. is_of_incarnation a.0 a.1 e.0) (all_points ps) ≡ under a (cells_at a ps)
  listed_incarnation [] h = refl
  listed_incarnation (p ∷ ps) h =
      filter_own (λ b. eq_by_cmp incarnation_cmp a b) (p.writer, p.start) (entries p.cells) (all_points ps)
      ∙ elim (eq_by_cmp incarnation_cmp a (p.writer, p.start)) as (λ t. eq_by_cmp incarnation_cmp a (p.writer, p.start) ≡ t → cond t (under (p.writer, p.start) (entries p.cells)) [] ++ filter (λ e. is_of_incarnation a.0 a.1 e.0) (all_points ps) ≡ under a (entries_at (cond t (Some p.cells) (find incarnation_cmp a (map keyed_cells ps))))) [
        | true ↦ λ t.
            let tied = (Equal-is (incarnation_cmp a (p.writer, p.start))).0 t in
            ap (λ l. under (p.writer, p.start) (entries p.cells) ++ l) (none_above ps (below_tied incarnation_total a (p.writer, p.start) (map keyed_cells ps) tied (first _ _ h)))
            ∙ append-nil (under (p.writer, p.start) (entries p.cells))
            ∙ ap (λ b. under b (entries p.cells)) (sym (incarnation_exact a (p.writer, p.start) tied))
        | false ↦ λ t. listed_incarnation ps (second _ _ h)
      ] refl

-- the points of an incarnation of a gateway
pub points_under : (a : IncarnationKey) (ps : List IncarnationState) → is_sorted incarnation_cmp (map keyed_cells ps) ≡ true → incarnation_points a.0 a.1 (from_sorted {R = key_cmp} (all_points ps)) ≡ under a (cells_at a ps)
points_under a ps sorted = ap (filter (λ e. is_of_incarnation a.0 a.1 e.0)) (entries_points ps sorted) ∙ listed_incarnation a ps (as_T sorted)

-- the greatest time of an incarnation that has cells
pub newest_under : (a : IncarnationKey) (es : List KeyedCell) → has_some es ≡ true → greatest (map (λ e. e.1.time) (under a es)) ≡ Some (latest es)
newest_under a es some = ap greatest (map-map (λ (e : Key × Cell Payload). e.1.time) (λ (e : KeyedCell). (whole_key a e.0, e.1)) es) ∙ some_latest es some

-- what is found under a key, of which a lent slice has told the place
module _ (a : IncarnationKey) (lent ps : List IncarnationState) (same : lent ≡ ps) (sorted : is_sorted incarnation_cmp (map keyed_cells ps) ≡ true) (place : ℕ) where
  pub found_there : (p : IncarnationState) → IsAt incarnation_cmp (map keyed_cells lent) a place → p ≡ get_or ps place p → find incarnation_cmp a (map keyed_cells ps) ≡ Some p.cells
  found_there p at is = found_place keyed_cells incarnation_total ps place p a (as_T sorted) (subst (λ (qs : List IncarnationState). IsAt incarnation_cmp (map keyed_cells qs) a place) same at) is

  pub found_nowhere : IsGap incarnation_cmp (map keyed_cells lent) a place → find incarnation_cmp a (map keyed_cells ps) ≡ None
  found_nowhere gap = (subst (λ (qs : List IncarnationState). IsGap incarnation_cmp (map keyed_cells qs) a place) same gap).none

  pub points_there : (p : IncarnationState) → IsAt incarnation_cmp (map keyed_cells lent) a place → p ≡ get_or ps place p → incarnation_points a.0 a.1 (from_sorted {R = key_cmp} (all_points ps)) ≡ under a (entries p.cells)
  points_there p at is = points_under a ps sorted ∙ ap (λ o. under a (entries_at o)) (found_there p at is)

  pub points_nowhere : IsGap incarnation_cmp (map keyed_cells lent) a place → incarnation_points a.0 a.1 (from_sorted {R = key_cmp} (all_points ps)) ≡ []
  points_nowhere gap = points_under a ps sorted ∙ ap (λ o. under a (entries_at o)) (found_nowhere gap)
