-- What is left where one incarnation keeps the points of a stream alone.
use Rattle.std.proofs.Common.{◌≡◌, ◌<◌, ◌≤◌, ◌+◌, ◌-◌, ◌&&◌, ◌||◌, ℕ, zero, suc, Bool, true, false, cond, not, List, [], ◌∷◌, map, length, get_or, Option, Some, None, refl, sym, ap, subst, ◌∙◌, true≢false, arith}
use Rattle.std.proofs.lemmas.Bool.{and_from, and_parts}
use Rattle.std.specs.Prelude.{T, filter, slice_get, slice_set}
use Rattle.std.specs.Cmp.{Equal-is, eq_by_cmp_equiv}
use Rattle.std.specs.FinMap.{FinMap, get, entries, from_sorted, retain_keys, get-retain_keys, same_map}
use Rattle.std.specs.FinMap.Entries.{find, is_sorted, where_key, find-where_key}
use Rattle.std.specs.List.{list_all, list_any}
use Rattle.std.specs.Option.{option_map, unwrap_or}
use Rattle.std.specs.declared.cmp.Ordering.{Ordering}
use Rattle.std.specs.Ordering.{eq_by_cmp}
use Rattle.point_kit.specs.declared.key.Key.{Key}
use Rattle.point_kit.specs.declared.stream.Stream.{Stream}
use Rattle.point_kit.specs.Orders.{key_cmp}
use Rattle.point_kit.proofs.OrderLaws.{key_total, key_exact}
use Rattle.gateway_kit.specs.Amending.{with_change}
use Rattle.gateway_kit.specs.Covering.{AreCovered}
use Rattle.gateway_kit.specs.Keys.{IncarnationKey, ItemKey, incarnation_cmp, item_cmp, whole_key}
use Rattle.gateway_kit.specs.KeyOrders.{incarnation_total, incarnation_exact, item_exact, split_key}
use Rattle.gateway_kit.specs.Numbers.{number_in}
use Rattle.gateway_kit.specs.IncarnationState.{IncarnationState, Cells, Numbers}
use Rattle.gateway_kit.specs.Incarnations.{IsWhole, all_points, all_numbers, entries_at, has_cells, has_some, keyed_cells, keyed_numbers}
use Rattle.gateway_kit.specs.Places.{IsAt}
use Rattle.gateway_kit.specs.Queries.{in_stream, is_of_incarnation, is_of_other_stream}
use Rattle.gateway_kit.proofs.AllMoves.{own_key, get_numbers, numbers_sorted}
use Rattle.gateway_kit.proofs.Covered.{set_covered}
use Rattle.gateway_kit.proofs.Drafting.{found_place}
use Rattle.gateway_kit.proofs.Entries.{as_T, not_None, find-with_change, is_sorted-with_change}
use Rattle.gateway_kit.proofs.Forgotten.{numbers_kept, points_kept}
use Rattle.gateway_kit.proofs.Growing.{all_set, within_at}
use Rattle.gateway_kit.proofs.Joining.{get_points}
use Rattle.gateway_kit.proofs.Moved.{set_with_change}
use Rattle.gateway_kit.proofs.Movement.{told}
use Rattle.gateway_kit.proofs.Recent.{all_points_cons}

-- ---- lists

pub map_filter : {A B : Type 0} (f : A → B) (p : B → Bool) (xs : List A) → map f (filter (λ x. p (f x)) xs) ≡ filter p (map f xs)
map_filter f p [] = refl
map_filter f p (x ∷ xs) =
    elim (p (f x)) as (λ b. map f (cond b (x ∷ filter (λ y. p (f y)) xs) (filter (λ y. p (f y)) xs)) ≡ cond b (f x ∷ filter p (map f xs)) (filter p (map f xs))) [
      | true ↦ ap (λ l. f x ∷ l) (map_filter f p xs)
      | false ↦ map_filter f p xs
    ]

pub all_filter : {A : Type 0} (t p : A → Bool) (xs : List A) → list_all t xs ≡ true → list_all t (filter p xs) ≡ true
all_filter t p [] h = refl
all_filter t p (x ∷ xs) h =
    let parts = and_parts (t x) (list_all t xs) h in
    elim (p x) as (λ b. list_all t (cond b (x ∷ filter p xs) (filter p xs)) ≡ true) [
      | true ↦ and_from (t x) (list_all t (filter p xs)) parts.0 (all_filter t p xs parts.1)
      | false ↦ all_filter t p xs parts.1
    ]

pub any_some : {A : Type 0} (p : A → Bool) (xs : List A) → has_some (filter p xs) ≡ list_any p xs
any_some p [] = refl
any_some p (x ∷ xs) = elim (p x) as (λ b. has_some (cond b (x ∷ filter p xs) (filter p xs)) ≡ (b || list_any p xs)) [ true ↦ refl | false ↦ any_some p xs ]

pub any_map : {A B : Type 0} (f : A → B) (p : B → Bool) (xs : List A) → list_any (λ x. p (f x)) xs ≡ list_any p (map f xs)
any_map f p [] = refl
any_map f p (x ∷ xs) = ap (λ b. p (f x) || b) (any_map f p xs)

none_filter : {A : Type 0} (p : A → Bool) (xs : List A) → list_any p xs ≡ false → filter p xs ≡ []
none_filter p xs none = go (filter p xs) (any_some p xs ∙ none)
  where
    go : {B : Type 0} (ys : List B) → has_some ys ≡ false → ys ≡ []
    go [] h = refl
    go (y ∷ ys) h = absurd (true≢false h)

-- ---- keys of other streams of an incarnation

module _ (a : IncarnationKey) (s : Stream) where
  abbrev pub stays : Key → Bool
  stays k = not (is_of_other_stream a.0 a.1 s k)

  -- a map that has of an incarnation what is of a stream, and of others all
  pub narrows : {V : Type 0} (old new : FinMap key_cmp V) → ((c : IncarnationKey) (b : ItemKey) → get new (whole_key c b) ≡ cond (stays (whole_key c b)) (get old (whole_key c b)) None) → new ≡ retain_keys old stays
  narrows old new at = same_map key_total key_exact _ _ (λ k.
      subst (λ (x : Key). get new x ≡ get (retain_keys old stays) x) (split_key k).2 (at (split_key k).0 (split_key k).1 ∙ sym (get-retain_keys old stays _ (λ x e. ap stays (sym (key_exact _ x e))))))

  -- the same where the incarnation is left out, and had nothing of the stream
  pub narrowed_alone : {V : Type 0} (old new : FinMap key_cmp V) → new ≡ retain_keys old (λ k. not (is_of_incarnation a.0 a.1 k)) → ((b : ItemKey) → in_stream s b ≡ true → get old (whole_key a b) ≡ None) → new ≡ retain_keys old stays
  narrowed_alone old new is none = narrows old new (λ c b.
      ap (λ (m : FinMap key_cmp _). get m (whole_key c b)) is
      ∙ get-retain_keys old (λ k. not (is_of_incarnation a.0 a.1 k)) (whole_key c b) (λ x e. ap (λ k. not (is_of_incarnation a.0 a.1 k)) (sym (key_exact _ x e)))
      ∙ elim (eq_by_cmp incarnation_cmp a c) as (λ t. eq_by_cmp incarnation_cmp a c ≡ t → cond (not t) (get old (whole_key c b)) None ≡ cond (not (t && not (in_stream s b))) (get old (whole_key c b)) None) [
        | false ↦ λ t. refl
        | true ↦ λ t. elim (in_stream s b) as (λ i. in_stream s b ≡ i → None ≡ cond (not (not i)) (get old (whole_key c b)) None) [
          | true ↦ λ i. sym (ap (λ (x : IncarnationKey). get old (whole_key x b)) (sym (incarnation_exact a c ((Equal-is (incarnation_cmp a c)).0 t))) ∙ none b i)
          | false ↦ λ i. refl
        ] refl
      ] refl)

  -- ---- one incarnation keeps its points of the stream

  module _ (place : ℕ) (olds : List IncarnationState) (len : ℕ) (p : IncarnationState) (whole : IsWhole olds len) (at : IsAt incarnation_cmp (map keyed_cells olds) a place) (is : p ≡ get_or olds place p) where
    within : place < length olds
    within = within_at keyed_cells olds place a at

    found_in : {V : Type 0} (b : ItemKey) (es : List (ItemKey × V)) → find item_cmp b (where_key item_cmp (in_stream s) es) ≡ cond (in_stream s b) (find item_cmp b es) None
    found_in b es = find-where_key item_cmp (in_stream s) b (λ x e. ap (in_stream s) (sym (item_exact b x e))) es

    sorted : T (is_sorted incarnation_cmp (map keyed_cells olds))
    sorted = as_T whole.sorted

    cells_there : find incarnation_cmp a (map keyed_cells olds) ≡ Some p.cells
    cells_there = found_place keyed_cells incarnation_total olds place p a sorted at is

    keys_same : (ps : List IncarnationState) → map (λ e. e.0) (map keyed_numbers ps) ≡ map (λ e. e.0) (map keyed_cells ps)
    keys_same [] = refl
    keys_same (q ∷ ps) = ap (λ l. own_key q ∷ l) (keys_same ps)

    numbers_at_place : IsAt incarnation_cmp (map keyed_numbers olds) a place
    numbers_at_place = ap (λ l. slice_get l place) (keys_same olds) ∙ at

    numbers_there : find incarnation_cmp a (map keyed_numbers olds) ≡ Some p.numbers
    numbers_there = found_place keyed_numbers incarnation_total olds place p a (numbers_sorted olds whole.sorted) numbers_at_place is

    -- nothing of the stream is there where none of its points is
    pub none_of_stream : list_any (λ e. in_stream s e.0) (entries p.cells) ≡ false → (b : ItemKey) → in_stream s b ≡ true → get (from_sorted {R = key_cmp} (all_points olds)) (whole_key a b) ≡ None
    none_of_stream lacks b t =
        get_points olds whole.sorted a b ∙ ap (λ (o : Option Cells). find item_cmp b (entries_at o)) cells_there
        ∙ ap (λ i. cond i (find item_cmp b (entries p.cells)) None) (sym t) ∙ sym (found_in b (entries p.cells))
        ∙ ap (find item_cmp b) (none_filter (λ e. in_stream s e.0) (entries p.cells) lacks)

    pub no_number_of_stream : list_any (λ e. in_stream s e.0) (entries p.numbers) ≡ false → (b : ItemKey) → in_stream s b ≡ true → get (from_sorted {R = key_cmp} (all_numbers olds)) (whole_key a b) ≡ None
    no_number_of_stream lacks b t =
        get_numbers olds whole.sorted a b ∙ ap (λ (o : Option Numbers). told (number_in item_cmp (entries_at o) b)) numbers_there
        ∙ ap (λ o. told (unwrap_or o 0)) (ap (λ i. cond i (find item_cmp b (entries p.numbers)) None) (sym t) ∙ sym (found_in b (entries p.numbers))
        ∙ ap (find item_cmp b) (none_filter (λ e. in_stream s e.0) (entries p.numbers) lacks))

    module _ (new : IncarnationState) (key : own_key new ≡ own_key p) (cells : entries new.cells ≡ where_key item_cmp (in_stream s) (entries p.cells)) (numbers : entries new.numbers ≡ where_key item_cmp (in_stream s) (entries p.numbers)) where
      abbrev news : List IncarnationState
      news = slice_set olds place new

      -- ---- its cells

      cells_set : map keyed_cells news ≡ with_change (λ old cs. cs) (map keyed_cells olds) place new.cells
      cells_set = set_with_change keyed_cells (λ old cs. cs) olds place p new new.cells within is (λ i. (key i, new.cells))

      pub news_sorted : is_sorted incarnation_cmp (map keyed_cells news) ≡ true
      news_sorted = ap (is_sorted incarnation_cmp) cells_set ∙ is_sorted-with_change incarnation_total (λ (old : Cells) cs. cs) (map keyed_cells olds) place new.cells ∙ whole.sorted

      cells_found : (c : IncarnationKey) → find incarnation_cmp c (map keyed_cells news) ≡ cond (eq_by_cmp incarnation_cmp c a) (Some new.cells) (find incarnation_cmp c (map keyed_cells olds))
      cells_found c =
          ap (find incarnation_cmp c) cells_set ∙ find-with_change incarnation_total (λ (old : Cells) cs. cs) c a (map keyed_cells olds) place new.cells sorted at
          ∙ ap (λ x. cond (eq_by_cmp incarnation_cmp c a) (option_map (λ v. new.cells) x) (find incarnation_cmp c (map keyed_cells olds))) cells_there

      -- of its own key what is of the stream, of another all
      either : {V : Type 0} {S : ItemKey → ItemKey → Ordering} (mine : FinMap S V) (theirs : Option (FinMap S V)) (before : List (ItemKey × V)) (c : IncarnationKey) (b : ItemKey) (say : Option V → Option V) → say None ≡ None → find item_cmp b (entries mine) ≡ cond (in_stream s b) (find item_cmp b before) None → (eq_by_cmp incarnation_cmp a c ≡ true → before ≡ entries_at theirs)
          → say (find item_cmp b (entries_at (cond (eq_by_cmp incarnation_cmp c a) (Some mine) theirs))) ≡ cond (stays (whole_key c b)) (say (find item_cmp b (entries_at theirs))) None
      either mine theirs before c b say none found own =
          ap (λ t. say (find item_cmp b (entries_at (cond t (Some mine) theirs)))) ((eq_by_cmp_equiv incarnation_total).symm c a)
          ∙ elim (eq_by_cmp incarnation_cmp a c) as (λ t. eq_by_cmp incarnation_cmp a c ≡ t → say (find item_cmp b (entries_at (cond t (Some mine) theirs))) ≡ cond (not (t && not (in_stream s b))) (say (find item_cmp b (entries_at theirs))) None) [
            | false ↦ λ t. refl
            | true ↦ λ t.
                ap say (found ∙ ap (λ es. cond (in_stream s b) (find item_cmp b es) None) (own t))
                ∙ elim (in_stream s b) as (λ i. say (cond i (find item_cmp b (entries_at theirs)) None) ≡ cond (not (not i)) (say (find item_cmp b (entries_at theirs))) None) [ true ↦ refl | false ↦ none ]
          ] refl

      same_key : (c : IncarnationKey) → eq_by_cmp incarnation_cmp a c ≡ true → a ≡ c
      same_key c t = incarnation_exact a c ((Equal-is (incarnation_cmp a c)).0 t)

      pub points_narrowed : from_sorted {R = key_cmp} (all_points news) ≡ retain_keys (from_sorted {R = key_cmp} (all_points olds)) stays
      points_narrowed = narrows _ _ (λ c b.
          get_points news news_sorted c b
          ∙ ap (λ (o : Option Cells). find item_cmp b (entries_at o)) (cells_found c)
          ∙ either new.cells (find incarnation_cmp c (map keyed_cells olds)) (entries p.cells) c b (λ o. o) refl
          (ap (find item_cmp b) cells ∙ found_in b (entries p.cells))
          (λ t. ap entries_at (sym cells_there) ∙ ap (λ (x : IncarnationKey). entries_at (find incarnation_cmp x (map keyed_cells olds))) (same_key c t))
          ∙ (λ i. cond (stays (whole_key c b)) (sym (get_points olds whole.sorted c b) i) None))

      -- ---- its numbers

      numbers_set : map keyed_numbers news ≡ with_change (λ old cs. cs) (map keyed_numbers olds) place new.numbers
      numbers_set = set_with_change keyed_numbers (λ old cs. cs) olds place p new new.numbers within is (λ i. (key i, new.numbers))

      numbers_found : (c : IncarnationKey) → find incarnation_cmp c (map keyed_numbers news) ≡ cond (eq_by_cmp incarnation_cmp c a) (Some new.numbers) (find incarnation_cmp c (map keyed_numbers olds))
      numbers_found c =
          ap (find incarnation_cmp c) numbers_set ∙ find-with_change incarnation_total (λ (old : Numbers) cs. cs) c a (map keyed_numbers olds) place new.numbers (numbers_sorted olds whole.sorted) numbers_at_place
          ∙ ap (λ x. cond (eq_by_cmp incarnation_cmp c a) (option_map (λ v. new.numbers) x) (find incarnation_cmp c (map keyed_numbers olds))) numbers_there

      pub numbers_narrowed : from_sorted {R = key_cmp} (all_numbers news) ≡ retain_keys (from_sorted {R = key_cmp} (all_numbers olds)) stays
      numbers_narrowed = narrows _ _ (λ c b.
          get_numbers news news_sorted c b
          ∙ ap (λ (o : Option Numbers). told (number_in item_cmp (entries_at o) b)) (numbers_found c)
          ∙ either new.numbers (find incarnation_cmp c (map keyed_numbers olds)) (entries p.numbers) c b (λ o. told (unwrap_or o 0)) refl
          (ap (find item_cmp b) numbers ∙ found_in b (entries p.numbers))
          (λ t. ap entries_at (sym numbers_there) ∙ ap (λ (x : IncarnationKey). entries_at (find incarnation_cmp x (map keyed_numbers olds))) (same_key c t))
          ∙ (λ i. cond (stays (whole_key c b)) (sym (get_numbers olds whole.sorted c b) i) None))

      -- ---- counts and bounds

      counts : (ps : List IncarnationState) (i : ℕ) (q : IncarnationState) → i < length ps → q ≡ get_or ps i q → length (all_points (slice_set ps i new)) + length (entries q.cells) ≡ length (all_points ps) + length (entries new.cells)
      counts [] i q less e = absurd (omega (arith, less))
      counts (z ∷ ps) zero q less e =
          let one : length (entries q.cells) ≡ length (entries z.cells) = ap (λ (x : IncarnationState). length (entries x.cells)) e in
          let was = all_points_cons z ps in
          let now = all_points_cons new ps in
          omega (arith, one, was, now)
      counts (z ∷ ps) (suc i) q less e =
          let rest = counts ps i q (omega (arith, less)) e in
          let was = all_points_cons z ps in
          let now = all_points_cons z (slice_set ps i new) in
          omega (arith, rest, was, now)

      module _ (dropped : ℕ) (went : dropped + length (entries new.cells) ≡ length (entries p.cells)) where
        pub dropped_among : dropped ≤ len
        dropped_among = let all = counts olds place p within is in let counted = whole.counted in omega (arith, all, counted, went)

        pub narrowed_whole : has_some (entries new.cells) ≡ true → IsWhole news (len - dropped)
        narrowed_whole some =
            let all = counts olds place p within is in
            let counted = whole.counted in
            let bounded = whole.bounded in
            record {
              sorted = news_sorted;
              filled = all_set has_cells olds place new whole.filled some;
              counted = omega (arith, all, counted, went);
              bounded = omega (arith, bounded);
            }

      pub narrowed_some : list_any (λ e. in_stream s e.0) (entries p.cells) ≡ true → has_some (entries new.cells) ≡ true
      narrowed_some some = ap has_some cells ∙ any_some (λ e. in_stream s e.0) (entries p.cells) ∙ some

      pub narrowed_covered : (bounds : List ℕ) → AreCovered bounds olds → AreCovered bounds news
      narrowed_covered bounds covered = set_covered bounds olds place p new within is (λ was b.
          let here = was b in
          subst (λ (n : ℕ). n ≤ get_or bounds place 0) (sym (ap (λ o. unwrap_or o 0) (ap (find item_cmp b) numbers ∙ found_in b (entries p.numbers))))
          (elim (in_stream s b) as (λ i. unwrap_or (cond i (find item_cmp b (entries p.numbers)) None) 0 ≤ get_or bounds place 0) [ true ↦ here | false ↦ omega arith ])) covered

  -- ---- where it is not held nothing changes

  module _ (ps : List IncarnationState) (sorted : is_sorted incarnation_cmp (map keyed_cells ps) ≡ true) (none : find incarnation_cmp a (map keyed_cells ps) ≡ None) where
    none_too : (qs : List IncarnationState) → find incarnation_cmp a (map keyed_cells qs) ≡ None → find incarnation_cmp a (map keyed_numbers qs) ≡ None
    none_too [] e = refl
    none_too (q ∷ qs) e =
        elim (eq_by_cmp incarnation_cmp a (own_key q)) as (λ t. cond t (Some q.cells) (find incarnation_cmp a (map keyed_cells qs)) ≡ None → cond t (Some q.numbers) (find incarnation_cmp a (map keyed_numbers qs)) ≡ None) [
          | true ↦ λ f. absurd (not_None (sym f))
          | false ↦ λ f. none_too qs f
        ] e

    pub points_stay : from_sorted {R = key_cmp} (all_points ps) ≡ retain_keys (from_sorted {R = key_cmp} (all_points ps)) stays
    points_stay = narrowed_alone _ _ (points_kept a ps sorted none) (λ b t. get_points ps sorted a b ∙ ap (λ (o : Option Cells). find item_cmp b (entries_at o)) none)

    pub numbers_stay : from_sorted {R = key_cmp} (all_numbers ps) ≡ retain_keys (from_sorted {R = key_cmp} (all_numbers ps)) stays
    numbers_stay = narrowed_alone _ _ (numbers_kept a ps sorted none) (λ b t. get_numbers ps sorted a b ∙ ap (λ (o : Option Numbers). told (number_in item_cmp (entries_at o) b)) (none_too ps none))
