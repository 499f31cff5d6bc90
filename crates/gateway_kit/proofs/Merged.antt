-- What a gateway's points are after its incarnations were joined with another's.
use Rattle.std.proofs.Common.{◌≡◌, ℕ, ◌+◌, ◌≤◌, ◌^◌, true, false, List, [], ◌∷◌, ◌++◌, map, Option, Some, None, refl, sym, ap, subst, ◌∙◌, true≢false}
use Rattle.std.proofs.lemmas.Bool.{and_parts}
use Rattle.std.specs.Prelude.{T}
use Rattle.std.specs.List.{IsDistinct, AllByRecursion, list_all}
use Rattle.std.specs.declared.cmp.Ordering.{Ordering}
use Rattle.std.specs.Ordering.{eq_by_cmp, is_eq}
use Rattle.std.specs.Cmp.{IsTotalOrder}
use Rattle.std.specs.FinMap.{get, entries, from_sorted, get-entries, entries-from_sorted, same_map, empty, get-empty}
use Rattle.std.specs.FinMap.Entries.{find, is_sorted, below_all}
use Rattle.point_kit.specs.Equality.{payload_eq}
use Rattle.point_kit.specs.Exports.{Points, join_points}
use Rattle.point_kit.specs.Join.{join_cells, join_options}
use Rattle.point_kit.specs.Orders.{key_cmp}
use Rattle.point_kit.specs.declared.cell.Cell.{Cell}
use Rattle.point_kit.specs.declared.key.Key.{Key}
use Rattle.point_kit.specs.declared.payload.Payload.{Payload}
use Rattle.point_kit.proofs.OrderLaws.{key_total, key_exact}
use Rattle.point_kit.proofs.StateLaws.{get-join_maps}
use Rattle.gateway_kit.specs.Keys.{IncarnationKey, ItemKey, incarnation_cmp, item_cmp, whole_key}
use Rattle.gateway_kit.specs.Growth.{GrowsBy}
use Rattle.gateway_kit.specs.Merging.{Merges, join_cell_maps}
use Rattle.gateway_kit.specs.Tallies.{Tells}
use Rattle.gateway_kit.specs.IncarnationState.{IncarnationState, Cells}
use Rattle.gateway_kit.specs.Incarnations.{IsWhole, all_points, keyed_cells, entries_at, has_some, has_cells}
use Rattle.gateway_kit.proofs.Counting.{unjoined}
use Rattle.gateway_kit.proofs.Entries.{as_T, first, second, less, from_sorted-nil}
use Rattle.gateway_kit.proofs.Joining.{get_points, entries_points, grown, grown_whole}
use Rattle.gateway_kit.specs.KeyOrders.{item_total, item_exact, split_key, compares, incarnation_total}
use Rattle.gateway_kit.proofs.Nested.{sorted_flatten}

-- the keys of a list in order differ
module _ {K V : Type 0} {R : K → K → Ordering} (o : IsTotalOrder R) where
  apart_below : (x : K) (es : List (K × V)) → T (below_all R x es) → AllByRecursion (λ k. eq_by_cmp R x k ≡ false) (map (λ e. e.0) es)
  apart_below x [] h = tt
  apart_below x (e ∷ es) h = (ap is_eq (less _ (first _ _ h)), apart_below x es (second _ _ h))

  pub sorted_distinct : (es : List (K × V)) → T (is_sorted R es) → IsDistinct (eq_by_cmp R) (map (λ e. e.0) es)
  unfolding IsDistinct
  sorted_distinct [] h = tt
  sorted_distinct (e ∷ es) h = (apart_below e.0 es (first _ _ h), sorted_distinct es (second _ _ h))

found_joined : (b : ItemKey) (x y : Option Cells) → find item_cmp b (entries_at (join_options join_cell_maps x y)) ≡ join_options (join_cells payload_eq) (find item_cmp b (entries_at x)) (find item_cmp b (entries_at y))
found_joined b None y = refl
found_joined b (Some m) None = unjoined (join_cells payload_eq) (find item_cmp b (entries m))
found_joined b (Some m) (Some n) = sym (get-entries (join_cell_maps m n) b) ∙ get-join_maps item_total item_exact (join_cells payload_eq) m n b ∙ (λ i. join_options (join_cells payload_eq) (get-entries m b i) (get-entries n b i))

all_points_sorted : (ps : List IncarnationState) → is_sorted incarnation_cmp (map keyed_cells ps) ≡ true → T (is_sorted key_cmp (all_points ps))
all_points_sorted ps sorted = sorted_flatten (Cell Payload) incarnation_cmp item_cmp key_cmp whole_key compares incarnation_total (map keyed_cells ps) (as_T sorted)

module _ (olds news theirs : List IncarnationState) (len : ℕ) (whole : IsWhole olds len) (their_order : is_sorted incarnation_cmp (map keyed_cells theirs) ≡ true) (more changed : ℕ) (merges : Merges olds news theirs more changed) where
  joined_at : (q : Key) → get (from_sorted {R = key_cmp} (all_points news)) q ≡ join_options (join_cells payload_eq) (get (from_sorted {R = key_cmp} (all_points olds)) q) (get (from_sorted {R = key_cmp} (all_points theirs)) q)
  joined_at q = subst (λ x. get (from_sorted {R = key_cmp} (all_points news)) x ≡ join_options (join_cells payload_eq) (get (from_sorted {R = key_cmp} (all_points olds)) x) (get (from_sorted {R = key_cmp} (all_points theirs)) x)) (split_key q).2 (at (split_key q).0 (split_key q).1)
    where
      at : (c : IncarnationKey) (b : ItemKey) → get (from_sorted {R = key_cmp} (all_points news)) (whole_key c b) ≡ join_options (join_cells payload_eq) (get (from_sorted {R = key_cmp} (all_points olds)) (whole_key c b)) (get (from_sorted {R = key_cmp} (all_points theirs)) (whole_key c b))
      at c b =
          get_points news merges.sorted c b
          ∙ ap (λ x. find item_cmp b (entries_at x)) (merges.found c)
          ∙ found_joined b (find incarnation_cmp c (map keyed_cells olds)) (find incarnation_cmp c (map keyed_cells theirs))
          ∙ sym (λ i. join_options (join_cells payload_eq) (get_points olds whole.sorted c b i) (get_points theirs their_order c b i))

  apart : IsDistinct (eq_by_cmp key_cmp) (map (λ e. e.0) (all_points theirs))
  apart = sorted_distinct key_total (all_points theirs) (all_points_sorted theirs their_order)

  listed : (q : Key) → get (from_sorted {R = key_cmp} (all_points theirs)) q ≡ find key_cmp q (all_points theirs)
  listed q = get-entries (from_sorted {R = key_cmp} (all_points theirs)) q ∙ ap (find key_cmp q) (entries_points theirs their_order)

  found_at : (q : Key) → get (from_sorted {R = key_cmp} (all_points news)) q ≡ join_options (join_cells payload_eq) (get (from_sorted {R = key_cmp} (all_points olds)) q) (find key_cmp q (all_points theirs))
  found_at q = joined_at q ∙ ap (join_options (join_cells payload_eq) (get {R = key_cmp} (from_sorted (all_points olds)) q)) (listed q)

  pub merged_whole : len + more ≤ 2 ^ 62 → IsWhole news (len + more)
  merged_whole = grown_whole olds news len whole (all_points theirs) apart found_at more merges.sorted merges.filled merges.more_keys

  pub merged_grown : (before after : ℕ) → len + more ≤ 2 ^ 62 → Tells olds news before after → GrowsBy olds news len (from_sorted (all_points theirs)) (record { more = more; changed = changed; before = before; after = after })
  merged_grown before after within tells =
      grown olds news len whole (all_points theirs) apart found_at (record { more = more; changed = changed; before = before; after = after }) (from_sorted (all_points theirs)) (merged_whole within) merges.changes tells listed

-- nothing joined in changes nothing
pub joined_empty : (m : Points) → m ≡ join_points m empty
joined_empty m = same_map key_total key_exact _ _ (λ q. unjoined (join_cells payload_eq) (get m q) ∙ ap (join_options (join_cells payload_eq) (get m q)) (sym (get-empty key_cmp q)) ∙ sym (get-join_maps key_total key_exact (join_cells payload_eq) m empty q))

-- incarnations with cells have points
pub no_incarnations : (ps : List IncarnationState) → is_sorted incarnation_cmp (map keyed_cells ps) ≡ true → list_all has_cells ps ≡ true → from_sorted {R = key_cmp} (all_points ps) ≡ empty → ps ≡ []
no_incarnations [] sorted filled none = refl
no_incarnations (p ∷ ps) sorted filled none =
    let no_entries : all_points (p ∷ ps) ≡ [] = sym (entries_points (p ∷ ps) sorted) ∙ ap entries none ∙ sym (ap entries (from_sorted-nil {V = Cell Payload} {R = key_cmp})) ∙ entries-from_sorted key_cmp [] tt in
    absurd (true≢false (sym ((and_parts (has_cells p) (list_all has_cells ps) filled).0) ∙ none_of (entries p.cells) (map (λ e. (whole_key (p.writer, p.start) e.0, e.1)) (entries p.cells)) (all_points ps) refl no_entries))
  where
    none_of : (es : List (ItemKey × Cell Payload)) (xs ys : List (Key × Cell Payload)) → map (λ e. (whole_key (p.writer, p.start) e.0, e.1)) es ≡ xs → xs ++ ys ≡ [] → has_some es ≡ false
    none_of [] xs ys is none = refl
    none_of (e ∷ es) xs ys is none = absurd (true≢false (ap has_some (ap (λ l. l ++ ys) is ∙ none)))
