-- What is left where one incarnation is taken out.
use Rattle.std.proofs.Common.{◌≡◌, ◌<◌, ◌≤◌, ◌+◌, ◌-◌, ℕ, zero, suc, Bool, true, false, cond, not, List, [], ◌∷◌, map, length, get_or, Option, Some, None, refl, sym, ap, subst, ◌∙◌, arith}
use Rattle.std.proofs.lemmas.Bool.{and_from, and_parts}
use Rattle.std.proofs.lemmas.List.Sums.{sum_by-remove}
use lib.ListN.{length-map}
use Rattle.std.specs.Prelude.{T}
use Rattle.std.specs.FinMap.{FinMap, get, entries, from_sorted, retain_keys, get-retain_keys, same_map}
use Rattle.std.specs.FinMap.Entries.{find, is_sorted, where_key, is_sorted-where_key, find-where_key}
use Rattle.std.specs.List.{list_all, remove}
use Rattle.std.specs.Ordering.{eq_by_cmp}
use Rattle.std.specs.declared.cmp.Ordering.TheVariants.{Less}
use Rattle.point_kit.specs.declared.key.Key.{Key}
use Rattle.point_kit.specs.Orders.{key_cmp}
use Rattle.point_kit.proofs.OrderLaws.{key_total, key_exact}
use Rattle.gateway_kit.specs.Covering.{AreCovered}
use Rattle.gateway_kit.specs.Growth.{cells_at}
use Rattle.gateway_kit.specs.Keys.{IncarnationKey, ItemKey, incarnation_cmp, item_cmp, keyed_cell_of, whole_key}
use Rattle.gateway_kit.specs.KeyOrders.{incarnation_total, incarnation_exact, split_key}
use Rattle.gateway_kit.specs.Numbers.{number_in, numbers_at}
use Rattle.gateway_kit.specs.IncarnationState.{IncarnationState, Cells, Numbers}
use Rattle.gateway_kit.specs.Incarnations.{IsWhole, all_points, all_numbers, entries_at, has_cells, keyed_cells, keyed_numbers}
use Rattle.gateway_kit.specs.Places.{IsAt}
use Rattle.gateway_kit.specs.Queries.{is_of_incarnation}
use Rattle.gateway_kit.specs.Tallies.{conflicts_of, incarnation_conflicts}
use Rattle.gateway_kit.specs.declared.part_item.PartItem.{PartItem}
use Rattle.gateway_kit.proofs.AllMoves.{own_key, get_numbers}
use Rattle.gateway_kit.proofs.Covered.{remove_covered}
use Rattle.gateway_kit.proofs.Entries.{apart_less, as_T, as_true, find_below, first, itself, key_above, not_None, same_Some, second}
use Rattle.gateway_kit.proofs.Growing.{within_at}
use Rattle.gateway_kit.proofs.Joining.{get_points}
use Rattle.gateway_kit.proofs.Movement.{told}
use Rattle.gateway_kit.proofs.Recent.{all_points_cons}

module _ (a : IncarnationKey) where
  -- whether a key is another
  abbrev pub is_other : IncarnationKey → Bool
  is_other c = not (eq_by_cmp incarnation_cmp a c)

  module _ {V : Type 0} (g : IncarnationState → V) where
    abbrev listed : List IncarnationState → List (IncarnationKey × V)
    listed ps = map (λ p. (own_key p, g p)) ps

    -- where none has the key all are others
    pub none_out : (ps : List IncarnationState) → find incarnation_cmp a (map keyed_cells ps) ≡ None → listed ps ≡ where_key incarnation_cmp is_other (listed ps)
    none_out [] none = refl
    none_out (p ∷ ps) none =
        elim (eq_by_cmp incarnation_cmp a (own_key p)) as (λ t. cond t (Some p.cells) (find incarnation_cmp a (map keyed_cells ps)) ≡ None → (own_key p, g p) ∷ listed ps ≡ cond (not t) ((own_key p, g p) ∷ where_key incarnation_cmp is_other (listed ps)) (where_key incarnation_cmp is_other (listed ps))) [
          | true ↦ λ e. absurd (not_None (sym e))
          | false ↦ λ e. ap (λ l. (own_key p, g p) ∷ l) (none_out ps e)
        ] none

    -- where one has it the others are left without it
    pub one_out : (ps : List IncarnationState) (i : ℕ) → T (is_sorted incarnation_cmp (map keyed_cells ps)) → IsAt incarnation_cmp (map keyed_cells ps) a i → listed (remove ps i) ≡ where_key incarnation_cmp is_other (listed ps)
    one_out [] i s at = absurd (not_None at)
    one_out (p ∷ ps) zero s at =
        let key : own_key p ≡ a = same_Some at in
        let none = subst (λ (k : IncarnationKey). find incarnation_cmp k (map keyed_cells ps) ≡ None) key (find_below incarnation_total (own_key p) (map keyed_cells ps) (first _ _ s)) in
        let tied : eq_by_cmp incarnation_cmp a (own_key p) ≡ true = subst (λ (k : IncarnationKey). eq_by_cmp incarnation_cmp k (own_key p) ≡ true) key (itself incarnation_total (own_key p)) in
        none_out ps none ∙ ap (λ t. cond (not t) ((own_key p, g p) ∷ where_key incarnation_cmp is_other (listed ps)) (where_key incarnation_cmp is_other (listed ps))) (sym tied)
    one_out (p ∷ ps) (suc i) s at =
        let above : incarnation_cmp (own_key p) a ≡ Less = key_above incarnation_total (own_key p) a (map keyed_cells ps) i (first _ _ s) at in
        ap (λ l. (own_key p, g p) ∷ l) (one_out ps i (second _ _ s) at)
        ∙ ap (λ t. cond (not t) ((own_key p, g p) ∷ where_key incarnation_cmp is_other (listed ps)) (where_key incarnation_cmp is_other (listed ps))) (sym (apart_less incarnation_total (own_key p) a above))

  -- ---- what a gateway holds of others

  -- a map that has of each incarnation but one what another has
  retains : {V : Type 0} (old new : FinMap key_cmp V) → ((c : IncarnationKey) (b : ItemKey) → get new (whole_key c b) ≡ cond (is_other c) (get old (whole_key c b)) None) → new ≡ retain_keys old (λ k. not (is_of_incarnation a.0 a.1 k))
  retains old new at = same_map key_total key_exact _ _ (λ k.
      subst (λ (x : Key). get new x ≡ get (retain_keys old test) x) (split_key k).2 (at (split_key k).0 (split_key k).1 ∙ sym (get-retain_keys old test _ (λ x e. ap test (sym (key_exact _ x e))))))
    where
      test : Key → Bool
      test k = not (is_of_incarnation a.0 a.1 k)

  found : {V : Type 0} (c : IncarnationKey) (es : List (IncarnationKey × V)) → find incarnation_cmp c (where_key incarnation_cmp is_other es) ≡ cond (is_other c) (find incarnation_cmp c es) None
  found c es = find-where_key incarnation_cmp is_other c (λ x e. ap is_other (sym (incarnation_exact c x e))) es

  module _ (olds news : List IncarnationState) (s : is_sorted incarnation_cmp (map keyed_cells olds) ≡ true) (cells : map keyed_cells news ≡ where_key incarnation_cmp is_other (map keyed_cells olds)) where
    pub others_sorted : is_sorted incarnation_cmp (map keyed_cells news) ≡ true
    others_sorted = ap (is_sorted incarnation_cmp) cells ∙ as_true _ (is_sorted-where_key incarnation_cmp is_other (map keyed_cells olds) (as_T s))

    pub points_of_others : from_sorted {R = key_cmp} (all_points news) ≡ retain_keys (from_sorted {R = key_cmp} (all_points olds)) (λ k. not (is_of_incarnation a.0 a.1 k))
    points_of_others = retains _ _ (λ c b.
        get_points news others_sorted c b
        ∙ ap (λ (l : List (IncarnationKey × Cells)). find item_cmp b (entries_at (find incarnation_cmp c l))) cells
        ∙ ap (λ (o : Option Cells). find item_cmp b (entries_at o)) (found c (map keyed_cells olds))
        ∙ elim (is_other c) as (λ t. find item_cmp b (entries_at (cond t (find incarnation_cmp c (map keyed_cells olds)) None)) ≡ cond t (find item_cmp b (cells_at c olds)) None) [ true ↦ refl | false ↦ refl ]
        ∙ (λ i. cond (is_other c) (sym (get_points olds s c b) i) None))

    pub numbers_of_others : map keyed_numbers news ≡ where_key incarnation_cmp is_other (map keyed_numbers olds) → from_sorted {R = key_cmp} (all_numbers news) ≡ retain_keys (from_sorted {R = key_cmp} (all_numbers olds)) (λ k. not (is_of_incarnation a.0 a.1 k))
    numbers_of_others numbers = retains _ _ (λ c b.
        get_numbers news others_sorted c b
        ∙ ap (λ (l : List (IncarnationKey × Numbers)). told (number_in item_cmp (entries_at (find incarnation_cmp c l)) b)) numbers
        ∙ ap (λ (o : Option Numbers). told (number_in item_cmp (entries_at o) b)) (found c (map keyed_numbers olds))
        ∙ elim (is_other c) as (λ t. told (number_in item_cmp (entries_at (cond t (find incarnation_cmp c (map keyed_numbers olds)) None)) b) ≡ cond t (told (number_in item_cmp (numbers_at c olds) b)) None) [ true ↦ refl | false ↦ refl ]
        ∙ (λ i. cond (is_other c) (sym (get_numbers olds s c b) i) None))

-- ---- how many cells are left

still_filled : (ps : List IncarnationState) (i : ℕ) → i < length ps → list_all has_cells ps ≡ true → list_all has_cells (remove ps i) ≡ true
still_filled [] i within h = absurd (omega (arith, within))
still_filled (p ∷ ps) zero within h = (and_parts (has_cells p) (list_all has_cells ps) h).1
still_filled (p ∷ ps) (suc i) within h =
    let parts = and_parts (has_cells p) (list_all has_cells ps) h in
    and_from (has_cells p) (list_all has_cells (remove ps i)) parts.0 (still_filled ps i (omega (arith, within)) parts.1)

fewer : (ps : List IncarnationState) (i : ℕ) (p : IncarnationState) → i < length ps → p ≡ get_or ps i p → length (all_points (remove ps i)) + length (entries p.cells) ≡ length (all_points ps)
fewer [] i p within is = absurd (omega (arith, within))
fewer (z ∷ ps) zero p within is =
    let all = all_points_cons z ps in
    let one : length (entries p.cells) ≡ length (entries z.cells) = ap (λ (q : IncarnationState). length (entries q.cells)) is in
    omega (arith, all, one)
fewer (z ∷ ps) (suc i) p within is =
    let rest = fewer ps i p (omega (arith, within)) is in
    let all = all_points_cons z ps in
    let left = all_points_cons z (remove ps i) in
    omega (arith, rest, all, left)

-- one is taken out, of which a lent slice has told the place
module _ (a : IncarnationKey) (place : ℕ) {lent olds news : List IncarnationState} {len : ℕ} {p : IncarnationState} (same : lent ≡ olds) (whole : IsWhole olds len) (found : IsAt incarnation_cmp (map keyed_cells lent) a place) (is : p ≡ get_or olds place p) (out : news ≡ remove olds place) where
  at : IsAt incarnation_cmp (map keyed_cells olds) a place
  at = subst (λ (ps : List IncarnationState). IsAt incarnation_cmp (map keyed_cells ps) a place) same found

  within : place < length olds
  within = within_at keyed_cells olds place a at

  pub cells_out : map keyed_cells news ≡ where_key incarnation_cmp (is_other a) (map keyed_cells olds)
  cells_out = ap (map keyed_cells) out ∙ one_out a (λ (q : IncarnationState). q.cells) olds place (as_T whole.sorted) at

  pub numbers_out : map keyed_numbers news ≡ where_key incarnation_cmp (is_other a) (map keyed_numbers olds)
  numbers_out = ap (map keyed_numbers) out ∙ one_out a (λ (q : IncarnationState). q.numbers) olds place (as_T whole.sorted) at

  among_all : length (entries p.cells) ≤ len
  among_all = let all = fewer olds place p within is in let counted = whole.counted in omega (arith, all, counted)

  -- so many items, which are its cells
  module _ (items : List PartItem) (shown : map keyed_cell_of items ≡ entries p.cells) where
    long : length items ≡ length (entries p.cells)
    long = sym (length-map items keyed_cell_of) ∙ ap length shown

    pub items_among : length items ≤ len
    items_among = let most = among_all in let n = long in omega (arith, most, n)

    pub left_whole : IsWhole news (len - length items)
    left_whole =
        let n = long in
        let all = fewer olds place p within is in
        let left : length (all_points news) ≡ length (all_points (remove olds place)) = ap (λ (ps : List IncarnationState). length (all_points ps)) out in
        let counted = whole.counted in
        let bounded = whole.bounded in
        record {
          sorted = others_sorted a olds news whole.sorted cells_out;
          filled = ap (list_all has_cells) out ∙ still_filled olds place within whole.filled;
          counted = omega (arith, n, all, left, counted);
          bounded = omega (arith, bounded);
        }

  pub conflicts_among : {all gone : ℕ} → all ≡ conflicts_of olds → gone ≡ incarnation_conflicts p → gone ≤ all
  conflicts_among was n =
      let one : incarnation_conflicts p ≡ incarnation_conflicts (get_or olds place p) = ap incarnation_conflicts is in
      let sums = sum_by-remove incarnation_conflicts olds place p within in
      omega (arith, one, sums, was, n)

  pub conflicts_left : {all gone : ℕ} → all ≡ conflicts_of olds → gone ≡ incarnation_conflicts p → all - gone ≡ conflicts_of news
  conflicts_left was n =
      let left : conflicts_of news ≡ conflicts_of (remove olds place) = ap (λ (ps : List IncarnationState). conflicts_of ps) out in
      let one : incarnation_conflicts p ≡ incarnation_conflicts (get_or olds place p) = ap incarnation_conflicts is in
      let sums = sum_by-remove incarnation_conflicts olds place p within in
      omega (arith, left, one, sums, was, n)

  pub bounds_left : (old : List ℕ) → length old ≡ length olds → AreCovered old olds → AreCovered (remove old place) news
  bounds_left old long covered = subst (λ (ps : List IncarnationState). AreCovered (remove old place) ps) (sym out) (remove_covered old olds place long within covered)

-- where none has the key nothing changes
module _ (a : IncarnationKey) (ps : List IncarnationState) (sorted : is_sorted incarnation_cmp (map keyed_cells ps) ≡ true) (none : find incarnation_cmp a (map keyed_cells ps) ≡ None) where
  pub points_kept : from_sorted {R = key_cmp} (all_points ps) ≡ retain_keys (from_sorted {R = key_cmp} (all_points ps)) (λ k. not (is_of_incarnation a.0 a.1 k))
  points_kept = points_of_others a ps ps sorted (none_out a (λ (q : IncarnationState). q.cells) ps none)

  pub numbers_kept : from_sorted {R = key_cmp} (all_numbers ps) ≡ retain_keys (from_sorted {R = key_cmp} (all_numbers ps)) (λ k. not (is_of_incarnation a.0 a.1 k))
  numbers_kept = numbers_of_others a ps ps sorted (none_out a (λ (q : IncarnationState). q.cells) ps none) (none_out a (λ (q : IncarnationState). q.numbers) ps none)
