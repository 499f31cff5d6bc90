-- Equal points come of equal incarnations.
use Rattle.std.proofs.Common.{◌≡◌, ℕ, ◌+◌, ◌<◌, true, false, cond, List, [], ◌∷◌, ◌++◌, map, take, length, get_or, filter, Option, Some, None, refl, sym, ap, ◌∙◌, true≢false}
use mathlib.Core.List.{map-map}
use Rattle.std.proofs.lemmas.Bool.{and_parts}
use Rattle.std.specs.FinMap.{entries, from_sorted, same_entries_map}
use Rattle.std.specs.FinMap.Entries.{find, same_entries}
use Rattle.std.specs.List.{list_all}
use Rattle.std.specs.Prelude.{slice_get}
use Rattle.std.proofs.lemmas.List.{map-append, take_more}
use Rattle.gateway_kit.proofs.Moved.{got_map}
use Rattle.std.specs.Ordering.{eq_by_cmp}
use Rattle.point_kit.specs.Orders.{key_cmp}
use Rattle.point_kit.specs.declared.cell.Cell.{Cell}
use Rattle.point_kit.specs.declared.key.Key.{Key}
use Rattle.point_kit.specs.declared.payload.Payload.{Payload}
use Rattle.gateway_kit.specs.Changing.{KeyedCell}
use Rattle.gateway_kit.specs.Growth.{cells_at}
use Rattle.gateway_kit.specs.Keys.{IncarnationKey, incarnation_cmp, whole_key}
use Rattle.gateway_kit.specs.IncarnationState.{IncarnationState, Cells}
use Rattle.gateway_kit.specs.Incarnations.{IsWhole, all_points, keyed_cells, has_some, has_cells, entries_at}
use Rattle.gateway_kit.specs.Queries.{is_of_incarnation}
use Rattle.gateway_kit.proofs.Entries.{as_T, not_None, same_Some}
use Rattle.gateway_kit.proofs.Joining.{entries_points, under}
use Rattle.gateway_kit.specs.KeyOrders.{incarnation_total, incarnation_exact}
use Rattle.gateway_kit.proofs.Queried.{listed_incarnation}

pub map_itself : {A : Type 0} (xs : List A) → map (λ x. x) xs ≡ xs
map_itself [] = refl
map_itself (x ∷ xs) = ap (λ l. x ∷ l) (map_itself xs)

-- ---- two lists, walked together

-- one more that is seen alike
pub same_more : {A B : Type 0} (f : A → B) (xs ys : List A) (i : ℕ) (x y : A) → i < length xs → i < length ys → x ≡ get_or xs i x → y ≡ get_or ys i y → map f (take i xs) ≡ map f (take i ys) → f x ≡ f y → map f (take (i + 1) xs) ≡ map f (take (i + 1) ys)
same_more f xs ys i x y h k is_x is_y so_far same =
    ap (map f) (take_more xs i x h ∙ ap (λ z. take i xs ++ z ∷ []) (sym is_x)) ∙ map-append f (take i xs) (x ∷ [])
    ∙ (λ j. so_far j ++ same j ∷ [])
    ∙ sym (ap (map f) (take_more ys i y k ∙ ap (λ z. take i ys ++ z ∷ []) (sym is_y)) ∙ map-append f (take i ys) (y ∷ []))

-- what stands at one place of two lists that are seen alike
pub same_here : {A B : Type 0} (f : A → B) (xs ys : List A) (i : ℕ) (x y : A) → i < length xs → i < length ys → x ≡ get_or xs i x → y ≡ get_or ys i y → map f xs ≡ map f ys → f x ≡ f y
same_here f xs ys i x y h k is_x is_y same = same_Some (sym (got_map f xs i x h is_x) ∙ ap (λ l. slice_get l i) same ∙ got_map f ys i y k is_y)

-- ---- incarnations

own_entry : Key × Cell Payload → KeyedCell
own_entry e = ((e.0.stream, e.0.attrs), e.1)

entries_under : (a : IncarnationKey) (es fs : List KeyedCell) → under a es ≡ under a fs → es ≡ fs
unfolding own_entry
entries_under a es fs e =
    sym (map_itself es) ∙ sym (map-map own_entry (λ (t : KeyedCell). (whole_key a t.0, t.1)) es)
    ∙ ap (map own_entry) e
    ∙ map-map own_entry (λ (t : KeyedCell). (whole_key a t.0, t.1)) fs ∙ map_itself fs

-- where all incarnations have cells, one that is found has some
pub found_filled : (a : IncarnationKey) (ps : List IncarnationState) (m : Cells) → list_all has_cells ps ≡ true → find incarnation_cmp a (map keyed_cells ps) ≡ Some m → has_some (entries m) ≡ true
found_filled a [] m filled is = absurd (not_None is)
found_filled a (p ∷ ps) m filled is =
    elim (eq_by_cmp incarnation_cmp a (p.writer, p.start)) as (λ b. cond b (Some p.cells) (find incarnation_cmp a (map keyed_cells ps)) ≡ Some m → has_some (entries m) ≡ true) [
      | true ↦ λ e. ap (λ (cs : Cells). has_some (entries cs)) (sym (same_Some e)) ∙ (and_parts (has_cells p) (list_all has_cells ps) filled).0
      | false ↦ λ e. found_filled a ps m ((and_parts (has_cells p) (list_all has_cells ps) filled).1) e
    ] is

same_cells : (x y : Option Cells) → ((m : Cells) → x ≡ Some m → has_some (entries m) ≡ true) → ((m : Cells) → y ≡ Some m → has_some (entries m) ≡ true) → entries_at x ≡ entries_at y → x ≡ y
same_cells None None f g e = refl
same_cells None (Some n) f g e = absurd (true≢false (sym (g n refl) ∙ ap has_some (sym e)))
same_cells (Some m) None f g e = absurd (true≢false (sym (f m refl) ∙ ap has_some e))
same_cells (Some m) (Some n) f g e = ap (λ cs. Some cs) (same_entries_map m n e)

-- equal points come of equal incarnations
pub same_incarnations : (ps qs : List IncarnationState) (m n : _) → IsWhole ps m → IsWhole qs n → from_sorted {R = key_cmp} (all_points ps) ≡ from_sorted (all_points qs) → map keyed_cells ps ≡ map keyed_cells qs
same_incarnations ps qs m n wp wq e =
    let points : all_points ps ≡ all_points qs = sym (entries_points ps wp.sorted) ∙ ap entries e ∙ entries_points qs wq.sorted in
    let at : (a : IncarnationKey) → cells_at a ps ≡ cells_at a qs = λ a. entries_under a (cells_at a ps) (cells_at a qs)
    (sym (listed_incarnation a ps (as_T wp.sorted)) ∙ ap (filter (λ e. is_of_incarnation a.0 a.1 e.0)) points ∙ listed_incarnation a qs (as_T wq.sorted)) in
    (same_entries incarnation_cmp incarnation_total incarnation_exact (map keyed_cells ps) (map keyed_cells qs) (as_T wp.sorted) (as_T wq.sorted)
    (λ a. same_cells (find incarnation_cmp a (map keyed_cells ps)) (find incarnation_cmp a (map keyed_cells qs)) (λ cs is. found_filled a ps cs wp.filled is) (λ cs is. found_filled a qs cs wq.filled is) (at a)))
