-- What of items and of incarnations is numbered above a number.
use Rattle.std.proofs.Common.{◌≡◌, ◌<◌, ◌≤◌, ◌+◌, ℕ, zero, suc, Bool, true, false, cond, nat_lt, nat_le, count_by, List, [], ◌∷◌, ◌++◌, map, take, length, get_or, Option, Some, None, refl, sym, ap, subst, ◌∙◌, arith, true≢false}
use Rattle.std.proofs.lemmas.Bool.{and_from, and_parts}
use Rattle.std.proofs.lemmas.Bool.Decides.{nat_tests}
use Rattle.std.proofs.lemmas.List.{take_more, map-append, length-append}
use Rattle.std.proofs.lemmas.List.Elements.{filter-append}
use Rattle.std.proofs.lemmas.List.Sums.{count_by-le-length, length-filter}
use lib.ListN.{length-map}
use Rattle.std.specs.Prelude.{T, filter}
use Rattle.std.specs.Cmp.{Equal-is}
use Rattle.std.specs.FinMap.{get, empty, entries, from_sorted, retain_keys, get-entries, get-from_sorted, entries-from_sorted, entries_sorted, get-retain_keys, same_map}
use Rattle.std.specs.FinMap.Entries.{find, is_sorted, below_all, where_key, same_entries, is_sorted-where_key, find-where_key}
use Rattle.std.specs.List.{list_all}
use Rattle.std.specs.Option.{unwrap_or}
use Rattle.std.specs.Ordering.{eq_by_cmp}
use Rattle.std.specs.declared.cmp.Ordering.TheVariants.{Equal}
use Rattle.point_kit.specs.declared.cell.Cell.{Cell}
use Rattle.point_kit.specs.declared.key.Key.{Key}
use Rattle.point_kit.specs.declared.payload.Payload.{Payload}
use Rattle.point_kit.specs.declared.writer_id.WriterId.{WriterId}
use Rattle.point_kit.specs.Orders.{key_cmp}
use Rattle.point_kit.proofs.OrderLaws.{key_total, key_exact}
use Rattle.gateway_kit.specs.Changing.{KeyedCell}
use Rattle.gateway_kit.specs.Growth.{cells_at}
use Rattle.gateway_kit.specs.Keys.{IncarnationKey, ItemKey, incarnation_cmp, item_cmp, keyed_cell_of, key_and_number, whole_key}
use Rattle.gateway_kit.specs.Numbers.{AllAre, IsNumbered, number_in, numbers_at}
use Rattle.gateway_kit.specs.Numbering.{number_of}
use Rattle.gateway_kit.specs.IncarnationState.{IncarnationState, Cells}
use Rattle.gateway_kit.specs.Incarnations.{IsWhole, flatten, all_points, all_numbers, keyed_cells, keyed_numbers, has_cells, has_some, entries_at}
use Rattle.gateway_kit.specs.Recent.{newer, recent_cells, recent_incarnation, recent_incarnations}
use Rattle.gateway_kit.specs.Queries.{has_conflict}
use Rattle.gateway_kit.specs.Tallies.{are_up_to, conflicts_of}
use Rattle.gateway_kit.specs.declared.part_item.PartItem.{PartItem}
use Rattle.gateway_kit.proofs.AllMoves.{own_key, get_numbers, viewed, numbers_left, incarnations_woven}
use Rattle.gateway_kit.proofs.Entries.{as_T, as_true, both, first, second, below_tied, find_below, from_sorted-nil}
use Rattle.gateway_kit.proofs.ItemMoves.{numbers_in, shows_numbered}
use Rattle.gateway_kit.proofs.Joining.{get_points}
use Rattle.gateway_kit.specs.KeyOrders.{item_total, item_exact, incarnation_total, split_key}
use Rattle.gateway_kit.proofs.MergeDrafts.{filled_incarnations}
use Rattle.gateway_kit.proofs.Movement.{told_back}
use Rattle.gateway_kit.proofs.OneCell.{cells_of, shows}
use Rattle.gateway_kit.proofs.Tallies.{conflicts_listed}

abbrev key_of : PartItem → ItemKey
key_of i = (i.stream, i.attrs)

-- ---- items

below_newer : (number : ℕ) (k : ItemKey) (items : List PartItem) → T (below_all item_cmp k (map keyed_cell_of items)) → T (below_all item_cmp k (map keyed_cell_of (newer number items)))
below_newer number k [] b = tt
below_newer number k (z ∷ items) b = elim (nat_lt number z.number) as (λ t. T (below_all item_cmp k (map keyed_cell_of (cond t (z ∷ newer number items) (newer number items))))) [
  | true ↦ both _ _ (first _ _ b) (below_newer number k items (second _ _ b))
  | false ↦ below_newer number k items (second _ _ b)
]

pub sorted_newer : (number : ℕ) (items : List PartItem) → T (is_sorted item_cmp (map keyed_cell_of items)) → T (is_sorted item_cmp (map keyed_cell_of (newer number items)))
sorted_newer number [] s = tt
sorted_newer number (z ∷ items) s = elim (nat_lt number z.number) as (λ t. T (is_sorted item_cmp (map keyed_cell_of (cond t (z ∷ newer number items) (newer number items))))) [
  | true ↦ both _ _ (below_newer number (key_of z) items (first _ _ s)) (sorted_newer number items (second _ _ s))
  | false ↦ sorted_newer number items (second _ _ s)
]

either_none : {A : Type 0} (b : Bool) → ◌≡◌ {A = Option A} None (cond b None None)
either_none true = refl
either_none false = refl

-- what is found among them
found_newer : (number : ℕ) (items : List PartItem) → T (is_sorted item_cmp (map keyed_cell_of items)) → (q : ItemKey) → find item_cmp q (map keyed_cell_of (newer number items)) ≡ cond (nat_lt number (number_in item_cmp (map key_and_number items) q)) (find item_cmp q (map keyed_cell_of items)) None
found_newer number [] s q = either_none (nat_lt number 0)
found_newer number (z ∷ items) s q =
    let rest = found_newer number items (second _ _ s) q in
    let left = newer number items in
    elim (eq_by_cmp item_cmp q (key_of z)) as (λ t. eq_by_cmp item_cmp q (key_of z) ≡ t → find item_cmp q (map keyed_cell_of (cond (nat_lt number z.number) (z ∷ left) left)) ≡ cond (nat_lt number (unwrap_or (cond t (Some z.number) (find item_cmp q (map key_and_number items))) 0)) (cond t (Some z.cell) (find item_cmp q (map keyed_cell_of items))) None) [
      | true ↦ λ t. elim (nat_lt number z.number) as (λ u. find item_cmp q (map keyed_cell_of (cond u (z ∷ left) left)) ≡ cond u (Some z.cell) None) [
        | true ↦ ap (λ b. cond b (Some z.cell) (find item_cmp q (map keyed_cell_of left))) t
        | false ↦ find_below item_total q (map keyed_cell_of left) (below_tied item_total q (key_of z) (map keyed_cell_of left) ((Equal-is (item_cmp q (key_of z))).0 t) (below_newer number (key_of z) items (first _ _ s)))
      ]
      | false ↦ λ t. elim (nat_lt number z.number) as (λ u. find item_cmp q (map keyed_cell_of (cond u (z ∷ left) left)) ≡ cond (nat_lt number (number_in item_cmp (map key_and_number items) q)) (find item_cmp q (map keyed_cell_of items)) None) [
        | true ↦ ap (λ b. cond b (Some z.cell) (find item_cmp q (map keyed_cell_of left))) t ∙ rest
        | false ↦ rest
      ]
    ] refl

pub up_to_newer : (number n : ℕ) (items : List PartItem) → are_up_to n items ≡ true → are_up_to n (newer number items) ≡ true
up_to_newer number n [] h = refl
up_to_newer number n (z ∷ items) h =
    let rest = up_to_newer number n items ((and_parts (nat_le z.number n) (are_up_to n items) h).1) in
    elim (nat_lt number z.number) as (λ t. are_up_to n (cond t (z ∷ newer number items) (newer number items)) ≡ true) [
      | true ↦ and_from (nat_le z.number n) (are_up_to n (newer number items)) ((and_parts (nat_le z.number n) (are_up_to n items) h).0) rest
      | false ↦ rest
    ]

none_over : (a b number : ℕ) → nat_le a b ≡ true → nat_lt number b ≡ false → nat_lt number a ≡ false
none_over a b number h g = grind (arith, nat_tests)

-- where none is greater, none is newer
none_newer : (number most : ℕ) (items : List PartItem) → are_up_to most items ≡ true → nat_lt number most ≡ false → newer number items ≡ []
none_newer number most [] h g = refl
none_newer number most (z ∷ items) h g =
    ap (λ t. cond t (z ∷ newer number items) (newer number items)) (none_over z.number most number ((and_parts (nat_le z.number most) (are_up_to most items) h).0) g)
    ∙ none_newer number most items ((and_parts (nat_le z.number most) (are_up_to most items) h).1) g

-- one more item
pub newer_more : (number : ℕ) (xs : List PartItem) (i : ℕ) (x : PartItem) → i < length xs → x ≡ get_or xs i x → newer number (take (i + 1) xs) ≡ newer number (take i xs) ++ cond (nat_lt number x.number) (x ∷ []) []
newer_more number xs i x within is =
    ap (newer number) (take_more xs i x within ∙ ap (λ (y : PartItem). take i xs ++ y ∷ []) (sym is))
    ∙ filter-append (λ (y : PartItem). nat_lt number y.number) (take i xs) (x ∷ [])

-- the cells that they show
pub newer_cells : (number : ℕ) (p : IncarnationState) (writer : WriterId) (start : ℕ) (items : List PartItem) → is_sorted item_cmp (map keyed_cell_of items) ≡ true → shows writer start items ≡ p → from_sorted {R = item_cmp} (map keyed_cell_of (newer number items)) ≡ recent_cells number p
newer_cells number p writer start items s is = same_map item_total item_exact _ _ (λ q.
    get-from_sorted item_cmp (map keyed_cell_of (newer number items)) q (sorted_newer number items (as_T s))
    ∙ found_newer number items (as_T s) q
    ∙ (λ i. cond (nat_lt number (number_in item_cmp (sym (numbers_in p writer start items s is) i) q)) (find item_cmp q (sym (cells_of p writer start items s is) i)) None)
    ∙ (λ i. cond (nat_lt number (number_in item_cmp (entries p.numbers) q)) (sym (get-entries p.cells q) i) None)
    ∙ sym (get-retain_keys p.cells (λ x. nat_lt number (number_in item_cmp (entries p.numbers) x)) q (λ x e. ap (λ k. nat_lt number (number_in item_cmp (entries p.numbers) k)) (sym (item_exact q x e)))))

entries_none : entries (from_sorted {X = Cell Payload} {R = item_cmp} []) ≡ []
entries_none = entries-from_sorted item_cmp [] tt

-- where no item has a greater number the incarnation has no such cells
pub none_recent : (number most : ℕ) (p : IncarnationState) (writer : WriterId) (start : ℕ) (items : List PartItem) → is_sorted item_cmp (map keyed_cell_of items) ≡ true → shows writer start items ≡ p → are_up_to most items ≡ true → has_cells (recent_incarnation number p) ≡ true → nat_lt number most ≡ true
none_recent number most p writer start items s is up some = go (nat_lt number most) refl
  where
    none : nat_lt number most ≡ false → has_some (entries (recent_cells number p)) ≡ false
    none g =
        ap (λ (c : Cells). has_some (entries c)) (sym (newer_cells number p writer start items s is))
        ∙ ap (λ (l : List PartItem). has_some (entries (from_sorted {R = item_cmp} (map keyed_cell_of l)))) (none_newer number most items up g)
        ∙ ap has_some entries_none

    go : (b : Bool) → nat_lt number most ≡ b → nat_lt number most ≡ true
    go true e = e
    go false e = absurd (true≢false (sym some ∙ none e))

-- ---- incarnations

-- one more incarnation
pub recent_more : (number : ℕ) (xs : List IncarnationState) (i : ℕ) (x : IncarnationState) → i < length xs → x ≡ get_or xs i x → map keyed_cells (recent_incarnations number (take (i + 1) xs)) ≡ map keyed_cells (recent_incarnations number (take i xs)) ++ cond (has_cells (recent_incarnation number x)) (keyed_cells (recent_incarnation number x) ∷ []) []
recent_more number xs i x within is =
    ap (λ (l : List IncarnationState). map keyed_cells (recent_incarnations number l)) (take_more xs i x within ∙ ap (λ (y : IncarnationState). take i xs ++ y ∷ []) (sym is))
    ∙ ap (λ (l : List IncarnationState). map keyed_cells (filter has_cells l)) (map-append (recent_incarnation number) (take i xs) (x ∷ []))
    ∙ ap (map keyed_cells) (filter-append has_cells (map (recent_incarnation number) (take i xs)) (recent_incarnation number x ∷ []))
    ∙ map-append keyed_cells (recent_incarnations number (take i xs)) (cond (has_cells (recent_incarnation number x)) (recent_incarnation number x ∷ []) [])
    ∙ ap (λ (l : List (IncarnationKey × Cells)). map keyed_cells (recent_incarnations number (take i xs)) ++ l) (inner (has_cells (recent_incarnation number x)))
  where
    inner : (b : Bool) → map keyed_cells (cond b (recent_incarnation number x ∷ []) []) ≡ cond b (keyed_cells (recent_incarnation number x) ∷ []) []
    inner true = refl
    inner false = refl

below_recent : (number : ℕ) (k : IncarnationKey) (ps : List IncarnationState) → T (below_all incarnation_cmp k (map keyed_cells ps)) → T (below_all incarnation_cmp k (map keyed_cells (recent_incarnations number ps)))
below_recent number k [] b = tt
below_recent number k (p ∷ ps) b = elim (has_cells (recent_incarnation number p)) as (λ t. T (below_all incarnation_cmp k (map keyed_cells (cond t (recent_incarnation number p ∷ recent_incarnations number ps) (recent_incarnations number ps))))) [
  | true ↦ both _ _ (first _ _ b) (below_recent number k ps (second _ _ b))
  | false ↦ below_recent number k ps (second _ _ b)
]

sorted_recent : (number : ℕ) (ps : List IncarnationState) → T (is_sorted incarnation_cmp (map keyed_cells ps)) → T (is_sorted incarnation_cmp (map keyed_cells (recent_incarnations number ps)))
sorted_recent number [] s = tt
sorted_recent number (p ∷ ps) s = elim (has_cells (recent_incarnation number p)) as (λ t. T (is_sorted incarnation_cmp (map keyed_cells (cond t (recent_incarnation number p ∷ recent_incarnations number ps) (recent_incarnations number ps))))) [
  | true ↦ both _ _ (below_recent number (own_key p) ps (first _ _ s)) (sorted_recent number ps (second _ _ s))
  | false ↦ sorted_recent number ps (second _ _ s)
]

filled_recent : (number : ℕ) (ps : List IncarnationState) → list_all has_cells (recent_incarnations number ps) ≡ true
filled_recent number [] = refl
filled_recent number (p ∷ ps) =
    let rest = filled_recent number ps in
    elim (has_cells (recent_incarnation number p)) as (λ t. has_cells (recent_incarnation number p) ≡ t → list_all has_cells (cond t (recent_incarnation number p ∷ recent_incarnations number ps) (recent_incarnations number ps)) ≡ true) [
      | true ↦ λ t. and_from (has_cells (recent_incarnation number p)) (list_all has_cells (recent_incarnations number ps)) t rest
      | false ↦ λ t. rest
    ] refl

pub all_points_cons : (p : IncarnationState) (ps : List IncarnationState) → length (all_points (p ∷ ps)) ≡ length (entries p.cells) + length (all_points ps)
all_points_cons p ps =
    length-append (map (λ (t : KeyedCell). (whole_key (p.writer, p.start) t.0, t.1)) (entries p.cells)) (all_points ps)
    ∙ ap (λ (n : ℕ). n + length (all_points ps)) (length-map (entries p.cells) (λ (t : KeyedCell). (whole_key (p.writer, p.start) t.0, t.1)))

pub retained : (m : Cells) (test : ItemKey → Bool) → entries (retain_keys m test) ≡ where_key item_cmp test (entries m)
retained m test = same_entries item_cmp item_total item_exact (entries (retain_keys m test)) (where_key item_cmp test (entries m)) (entries_sorted (retain_keys m test)) (is_sorted-where_key item_cmp test (entries m) (entries_sorted m)) (λ q.
    sym (get-entries (retain_keys m test) q) ∙ get-retain_keys m test q (alike q) ∙ ap (λ o. cond (test q) o None) (get-entries m q) ∙ sym (find-where_key item_cmp test q (alike q) (entries m)))
  where
    alike : (q x : ItemKey) → item_cmp q x ≡ Equal → test x ≡ test q
    alike q x e = ap test (sym (item_exact q x e))

fewer : (number : ℕ) (p : IncarnationState) → length (entries (recent_cells number p)) ≤ length (entries p.cells)
fewer number p =
    let test : KeyedCell → Bool = λ e. nat_lt number (number_in item_cmp (entries p.numbers) e.0) in
    let is : length (entries (recent_cells number p)) ≡ length (filter test (entries p.cells)) = ap length (retained p.cells (λ q. nat_lt number (number_in item_cmp (entries p.numbers) q))) in
    let counted = length-filter test (entries p.cells) in
    let few = count_by-le-length test (entries p.cells) in
    omega (arith, is, counted, few)

pub few_recent : (number : ℕ) (ps : List IncarnationState) → length (all_points (recent_incarnations number ps)) ≤ length (all_points ps)
few_recent number [] = omega arith
few_recent number (p ∷ ps) =
    let rest = few_recent number ps in
    let here = fewer number p in
    let all = all_points_cons p ps in
    elim (has_cells (recent_incarnation number p)) as (λ t. length (all_points (cond t (recent_incarnation number p ∷ recent_incarnations number ps) (recent_incarnations number ps))) ≤ length (all_points (p ∷ ps))) [
      | true ↦ let kept = all_points_cons (recent_incarnation number p) (recent_incarnations number ps) in omega (arith, rest, here, all, kept)
      | false ↦ omega (arith, rest, here, all)
    ]

-- one more incarnation of all that are counted
all_points_push : (ps : List IncarnationState) (p : IncarnationState) → length (all_points (ps ++ p ∷ [])) ≡ length (all_points ps) + length (entries p.cells)
all_points_push [] p = let one = all_points_cons p [] in omega (arith, one)
all_points_push (z ∷ ps) p =
    let rest = all_points_push ps p in
    let more = all_points_cons z (ps ++ p ∷ []) in
    let so_far = all_points_cons z ps in
    omega (arith, rest, more, so_far)

pub all_points_more : (ps : List IncarnationState) (i : ℕ) (p : IncarnationState) → i < length ps → p ≡ get_or ps i p → length (all_points (take (i + 1) ps)) ≡ length (all_points (take i ps)) + length (entries p.cells)
all_points_more ps i p within is = ap (λ (l : List IncarnationState). length (all_points l)) (take_more ps i p within ∙ ap (λ (q : IncarnationState). take i ps ++ q ∷ []) (sym is)) ∙ all_points_push (take i ps) p

pub all_points_few : (ps : List IncarnationState) (i : ℕ) → length (all_points (take i ps)) ≤ length (all_points ps)
all_points_few [] zero = omega arith
all_points_few [] (suc i) = omega arith
all_points_few (z ∷ ps) zero = omega arith
all_points_few (z ∷ ps) (suc i) =
    let rest = all_points_few ps i in
    let all = all_points_cons z ps in
    let so_far = all_points_cons z (take i ps) in
    omega (arith, rest, all, so_far)

-- whether a list of items has any, as its entries tell
pub has_items : (items : List PartItem) (es : List KeyedCell) → map keyed_cell_of items ≡ es → (length items ≡ 0 → ⊥) → has_some es ≡ true
has_items [] es is some = absurd (some refl)
has_items (z ∷ items) es is some = sym (ap has_some is)

pub has_none_left : (items : List PartItem) (es : List KeyedCell) → map keyed_cell_of items ≡ es → length items ≡ 0 → has_some es ≡ false
has_none_left [] es is none = sym (ap has_some is)
has_none_left (z ∷ items) es is none = absurd (omega (arith, none))

-- ---- the cell of a key

nothing_in : (c : Cells) (b : ItemKey) → has_some (entries c) ≡ false → find item_cmp b (entries c) ≡ None
nothing_in c b none = go (entries c) none
  where
    go : (es : List KeyedCell) → has_some es ≡ false → find item_cmp b es ≡ None
    go [] h = refl
    go (e ∷ es) h = absurd (true≢false h)

incarnation_recent : (number : ℕ) (p : IncarnationState) (b : ItemKey) → find item_cmp b (entries (recent_cells number p)) ≡ cond (nat_lt number (number_in item_cmp (entries p.numbers) b)) (find item_cmp b (entries p.cells)) None
incarnation_recent number p b =
    sym (get-entries (recent_cells number p) b)
    ∙ get-retain_keys p.cells (λ x. nat_lt number (number_in item_cmp (entries p.numbers) x)) b (λ x e. ap (λ k. nat_lt number (number_in item_cmp (entries p.numbers) k)) (sym (item_exact b x e)))
    ∙ (λ i. cond (nat_lt number (number_in item_cmp (entries p.numbers) b)) (get-entries p.cells b i) None)

-- what is found in incarnations that came of these
recent_at : (number : ℕ) (ps : List IncarnationState) → T (is_sorted incarnation_cmp (map keyed_cells ps)) → (k : IncarnationKey) (b : ItemKey) → find item_cmp b (cells_at k (recent_incarnations number ps)) ≡ cond (nat_lt number (number_in item_cmp (numbers_at k ps) b)) (find item_cmp b (cells_at k ps)) None
recent_at number [] s k b = either_none (nat_lt number 0)
recent_at number (p ∷ ps) s k b =
    let rest = recent_at number ps (second _ _ s) k b in
    let left = recent_incarnations number ps in
    let here = incarnation_recent number p b in
    elim (eq_by_cmp incarnation_cmp k (own_key p)) as (λ t. eq_by_cmp incarnation_cmp k (own_key p) ≡ t → find item_cmp b (entries_at (find incarnation_cmp k (map keyed_cells (cond (has_cells (recent_incarnation number p)) (recent_incarnation number p ∷ left) left)))) ≡ cond (nat_lt number (number_in item_cmp (entries_at (cond t (Some p.numbers) (find incarnation_cmp k (map keyed_numbers ps)))) b)) (find item_cmp b (entries_at (cond t (Some p.cells) (find incarnation_cmp k (map keyed_cells ps))))) None) [
      | true ↦ λ t. elim (has_cells (recent_incarnation number p)) as (λ u. has_cells (recent_incarnation number p) ≡ u → find item_cmp b (entries_at (find incarnation_cmp k (map keyed_cells (cond u (recent_incarnation number p ∷ left) left)))) ≡ cond (nat_lt number (number_in item_cmp (entries p.numbers) b)) (find item_cmp b (entries p.cells)) None) [
        | true ↦ λ u. ap (λ x. find item_cmp b (entries_at (cond x (Some (recent_cells number p)) (find incarnation_cmp k (map keyed_cells left))))) t ∙ here
        | false ↦ λ u.
            ap (λ (o : Option Cells). find item_cmp b (entries_at o)) (find_below incarnation_total k (map keyed_cells left) (below_tied incarnation_total k (own_key p) (map keyed_cells left) ((Equal-is (incarnation_cmp k (own_key p))).0 t) (below_recent number (own_key p) ps (first _ _ s))))
            ∙ sym (nothing_in (recent_cells number p) b u) ∙ here
      ] refl
      | false ↦ λ t. elim (has_cells (recent_incarnation number p)) as (λ u. find item_cmp b (entries_at (find incarnation_cmp k (map keyed_cells (cond u (recent_incarnation number p ∷ left) left)))) ≡ cond (nat_lt number (number_in item_cmp (numbers_at k ps) b)) (find item_cmp b (cells_at k ps)) None) [
        | true ↦ ap (λ x. find item_cmp b (entries_at (cond x (Some (recent_cells number p)) (find incarnation_cmp k (map keyed_cells left))))) t ∙ rest
        | false ↦ rest
      ]
    ] refl

-- ---- a gateway

module _ (number : ℕ) (olds news : List IncarnationState) (s : is_sorted incarnation_cmp (map keyed_cells olds) ≡ true) (is : map keyed_cells news ≡ map keyed_cells (recent_incarnations number olds)) where
  pub since_sorted : is_sorted incarnation_cmp (map keyed_cells news) ≡ true
  since_sorted = ap (is_sorted incarnation_cmp) is ∙ as_true _ (sorted_recent number olds (as_T s))

  pub since_points : (id : ℕ) → from_sorted {R = key_cmp} (all_points news) ≡ retain_keys (viewed id olds).points (λ k. nat_lt number (number_of (viewed id olds) k))
  since_points id = same_map key_total key_exact _ _ (λ k.
      subst (λ (x : Key). get {R = key_cmp} (from_sorted (all_points news)) x ≡ get {R = key_cmp} (retain_keys (viewed id olds).points test) x) (split_key k).2 (at (split_key k).0 (split_key k).1))
    where
      test : Key → Bool
      test k = nat_lt number (number_of (viewed id olds) k)

      numbered_at : (c : IncarnationKey) (b : ItemKey) → number_of (viewed id olds) (whole_key c b) ≡ number_in item_cmp (numbers_at c olds) b
      numbered_at c b = ap (λ (o : Option ℕ). unwrap_or o 0) (get_numbers olds s c b) ∙ told_back _

      at : (c : IncarnationKey) (b : ItemKey) → get {R = key_cmp} (from_sorted (all_points news)) (whole_key c b) ≡ get {R = key_cmp} (retain_keys (viewed id olds).points test) (whole_key c b)
      at c b =
          get_points news since_sorted c b
          ∙ ap (λ (l : List (IncarnationKey × Cells)). find item_cmp b (entries_at (find incarnation_cmp c l))) is
          ∙ recent_at number olds (as_T s) c b
          ∙ (λ i. cond (nat_lt number (sym (numbered_at c b) i)) (sym (get_points olds s c b) i) None)
          ∙ sym (get-retain_keys (viewed id olds).points test (whole_key c b) (λ x e. ap test (sym (key_exact (whole_key c b) x e))))

-- incarnations of which no key is numbered have no numbers
pub numbers_gone : (ps : List IncarnationState) → is_sorted incarnation_cmp (map keyed_cells ps) ≡ true → AllAre (IsNumbered 0) ps → from_sorted {R = key_cmp} (all_numbers ps) ≡ empty
numbers_gone ps s none =
    numbers_left 0 0 [] ps (viewed 0 []) (viewed 0 ps) refl s refl refl (incarnations_woven 0 [] ps refl s none) ∙ from_sorted-nil

-- incarnations that differ in their numbers alone
module _ (olds news : List IncarnationState) (same : map keyed_cells news ≡ map keyed_cells olds) where
  pub whole_alike : (len : ℕ) → IsWhole olds len → IsWhole news len
  whole_alike len whole = record {
    sorted = ap (is_sorted incarnation_cmp) same ∙ whole.sorted;
    filled = filled_incarnations news ∙ ap (list_all (λ (e : IncarnationKey × Cells). has_some (entries e.1))) same ∙ sym (filled_incarnations olds) ∙ whole.filled;
    counted = whole.counted ∙ sym (ap (λ (l : List (IncarnationKey × Cells)). length (flatten whole_key l)) same);
    bounded = whole.bounded;
  }

  pub conflicts_alike : conflicts_of news ≡ conflicts_of olds
  conflicts_alike = conflicts_listed news ∙ ap (λ (l : List (IncarnationKey × Cells)). count_by (λ (e : Key × Cell Payload). has_conflict e.1) (flatten whole_key l)) same ∙ sym (conflicts_listed olds)

-- what is kept of a gateway is whole
pub since_whole : (number : ℕ) (olds news : List IncarnationState) (len most : ℕ) → IsWhole olds most → map keyed_cells news ≡ map keyed_cells (recent_incarnations number olds) → len ≡ length (all_points news) → IsWhole news len
since_whole number olds news len most whole is counted =
    let few = few_recent number olds in
    let all = whole.counted in
    let bounded = whole.bounded in
    let long : length (all_points news) ≡ length (all_points (recent_incarnations number olds)) = ap (λ (l : List (IncarnationKey × Cells)). length (flatten whole_key l)) is in
    record {
      sorted = since_sorted number olds news whole.sorted is;
      filled = filled_incarnations news ∙ ap (list_all (λ (e : IncarnationKey × Cells). has_some (entries e.1))) is ∙ sym (filled_incarnations (recent_incarnations number olds)) ∙ filled_recent number olds;
      counted = counted;
      bounded = omega (arith, few, all, bounded, long, counted);
    }

-- an incarnation of which no key has a number above 0
has_none : (items : List PartItem) → are_up_to 0 items ≡ true → AllAre (λ (i : PartItem). i.number ≡ 0) items
has_none [] h i x l is = absurd (omega (arith, l))
has_none (z ∷ items) h zero x l is = ap (λ (y : PartItem). y.number) is ∙ least z.number ((and_parts (nat_le z.number 0) (are_up_to 0 items) h).0)
  where
    least : (n : ℕ) → nat_le n 0 ≡ true → n ≡ 0
    least n g = grind (arith, nat_tests)
has_none (z ∷ items) h (suc i) x l is = has_none items ((and_parts (nat_le z.number 0) (are_up_to 0 items) h).1) i x (omega (arith, l)) is

pub none_numbered : (number most : ℕ) (p : IncarnationState) (writer : WriterId) (start : ℕ) (items : List PartItem) → is_sorted item_cmp (map keyed_cell_of items) ≡ true → shows writer start items ≡ p → are_up_to most items ≡ true → number ≡ 0 → most ≡ 0 → IsNumbered number p
none_numbered number most p writer start items s is up zeroed none =
    subst (λ (n : ℕ). IsNumbered n p) (sym zeroed) (subst (λ (q : IncarnationState). IsNumbered 0 q) is (shows_numbered 0 writer start items s (has_none items (subst (λ (n : ℕ). are_up_to n items ≡ true) none up))))
