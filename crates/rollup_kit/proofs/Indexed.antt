-- Rows that are found by a hash of their sets.
use Rattle.std.proofs.Common.{◌≡◌, ℕ, zero, suc, ◌+◌, ◌<◌, ◌^◌, Bool, true, false, cond, List, [], ◌∷◌, ◌++◌, ◌⊎◌, inl, inr, length, get_or, nat_eq, slice_get, slice_set, append_assoc, Option, Some, None, Ok, Err, is_some, refl, sym, ap, subst, ◌∙◌, arith}
use mathlib.Core.Bool.{true≢false}
use Rattle.std.specs.Cmp.{Equal-is, eq_by_cmp_equiv}
use Rattle.std.specs.Prelude.{IfSome, Result, OnOk, OnErr}
use Rattle.std.specs.List.{AllByRecursion, IsDistinct, insert}
use Rattle.std.specs.Map.{keys_of, lookup}
use Rattle.std.specs.Option.{option_map}
use Rattle.std.specs.Ordering.{eq_by_cmp}
use Rattle.std.proofs.lemmas.List.Edits.{insert_end, insert-append_left}
use Rattle.std.proofs.lemmas.List.Sorted.{IsPermutation-map, IsPermutation-insert}
use Rattle.std.proofs.lemmas.Map.{lookup-insert, none_passes_from_lookup}
use Rattle.std.proofs.lemmas.Map.Entries.{place_from_lookup, lookup_from_place}
use Rattle.std.proofs.lemmas.Map.Keys.{IsDistinct-cons, IsDistinct-IsPermutation}
use Rattle.std.proofs.lemmas.Bool.{eqb-true, eq-eqb}
use Rattle.std.proofs.lemmas.Option.{slice_get-map, slice_get-get_or}
use Rattle.indexmap.specs.IndexMap.{set_value_at}
use Rattle.indexmap.specs.Layout.{hash_map}
use Rattle.attr_kit.specs.contracts.attr_set.AttrSetEq.TheImpl.Laws as set_laws
use Rattle.point_kit.specs.declared.cell.Cell.{Cell}
use Rattle.point_kit.specs.declared.payload.Payload.{Payload}
use Rattle.rollup_kit.specs.Asks.{Attributes, attributes_cmp}
use Rattle.rollup_kit.specs.Groups.{Grouped, no_group, with_held}
use Rattle.rollup_kit.specs.Indexed.{pairs_hash, IsIndexed, EachHasRoom, AddsAt, Pushes, first_row}
use Rattle.rollup_kit.specs.Walks.{Rows, group_at, HasRoom, AddsTo, AddsHeld}
use Rattle.rollup_kit.proofs.Adding.{held_first, absent, started}
use Rattle.rollup_kit.proofs.Placed.{changed_at}
use Rattle.rollup_kit.proofs.SetOrders.{sets_total, sets_exact, set_eq, ties}
use Rattle.rollup_kit.proofs.Walked.{room_of}

abbrev E : Attributes → Attributes → Bool
E = eq_by_cmp attributes_cmp

same_set : (x y : Attributes) → E x y ≡ true → x ≡ y
same_set x y e = sets_exact x y ((Equal-is (attributes_cmp x y)).0 e)

-- lists of entries, one behind the other
module _ {K X : Type 0} where
  keys-append : (xs ys : List (K × X)) → keys_of (xs ++ ys) ≡ keys_of xs ++ keys_of ys
  keys-append [] ys = refl
  keys-append (x ∷ xs) ys = ap (λ l. x.0 ∷ l) (keys-append xs ys)

  get-left : (xs ys : List (K × X)) (i : ℕ) (e : K × X) → slice_get xs i ≡ Some e → slice_get (xs ++ ys) i ≡ Some e
  get-left [] ys i e h = cc
  get-left (x ∷ xs) ys zero e h = h
  get-left (x ∷ xs) ys (suc i) e h = get-left xs ys i e h

  get-right : (xs ys : List (K × X)) (i : ℕ) → slice_get (xs ++ ys) (length xs + i) ≡ slice_get ys i
  get-right [] ys i = ap (slice_get ys) (omega arith)
  get-right (x ∷ xs) ys i = let e : suc (length xs) + i ≡ suc (length xs + i) = omega arith in ap (slice_get (x ∷ (xs ++ ys))) e ∙ get-right xs ys i

  set-left : (xs ys : List (K × X)) (i : ℕ) (e : K × X) (w : X) → slice_get xs i ≡ Some e → set_value_at (xs ++ ys) i w ≡ set_value_at xs i w ++ ys
  set-left [] ys i e w h = cc
  set-left (x ∷ xs) ys zero e w h = refl
  set-left (x ∷ xs) ys (suc i) e w h = ap (λ l. x ∷ l) (set-left xs ys i e w h)

  pub keys-set : (xs : List (K × X)) (i : ℕ) (w : X) → keys_of (set_value_at xs i w) ≡ keys_of xs
  keys-set [] i w = refl
  keys-set (x ∷ xs) zero w = refl
  keys-set (x ∷ xs) (suc i) w = ap (λ l. x.0 ∷ l) (keys-set xs i w)

  pub key_at : (xs : List (K × X)) (i : ℕ) (k : K) (v : X) → slice_get xs i ≡ Some (k, v) → slice_get (keys_of xs) i ≡ Some k
  key_at xs i k v h = slice_get-map (λ (e : K × X). e.0) xs i ∙ ap (option_map (λ (e : K × X). e.0)) h

  -- the key at a place of a list with one more
  last_key : (xs : List (K × X)) (x : K × X) (i : ℕ) (k : K) → slice_get (keys_of (xs ++ x ∷ [])) i ≡ Some k → (slice_get (keys_of xs) i ≡ Some k) ⊎ ((i ≡ length xs) × (k ≡ x.0))
  last_key [] x zero k h = inr (refl, cc)
  last_key [] x (suc i) k h = cc
  last_key (y ∷ xs) x zero k h = inl h
  last_key (y ∷ xs) x (suc i) k h = elim (last_key xs x i k h) [ inl w ↦ inl w | inr w ↦ inr (ap suc w.0, w.1) ]

-- a new entry between others
between : {A : Type 0} (xs ys : List A) (y : A) → insert (xs ++ ys) (length xs) y ≡ (xs ++ y ∷ []) ++ ys
between xs ys y = insert-append_left xs ys (length xs) y (omega arith) ∙ ap (λ l. l ++ ys) (insert_end xs y)

-- a set that has no row stays told apart
apart : (set : Attributes) (rows : Rows) → group_at rows set ≡ None → AllByRecursion (λ y. E set y ≡ false) (keys_of rows)
apart set [] none = tt
apart set (e ∷ es) none =
    elim (E set e.0) as (λ b. E set e.0 ≡ b → cond b (Some e.1) (group_at es set) ≡ None → (E set e.0 ≡ false) × AllByRecursion (λ y. E set y ≡ false) (keys_of es)) [
      | true ↦ λ t n. cc
      | false ↦ λ t n. (t, apart set es n)
    ] refl none

distinct_inserted : (rows : Rows) (i : ℕ) (set : Attributes) (g : Grouped) → IsDistinct E (keys_of rows) → group_at rows set ≡ None → IsDistinct E (keys_of (insert rows i (set, g)))
distinct_inserted rows i set g distinct none =
    IsDistinct-IsPermutation E (eq_by_cmp_equiv sets_total).symm (set ∷ keys_of rows) (keys_of (insert rows i (set, g)))
    (IsPermutation-map (λ (e : Attributes × Grouped). e.0) ((set, g) ∷ rows) (insert rows i (set, g)) (IsPermutation-insert rows i (set, g)))
    (IsDistinct-cons E set (keys_of rows) (apart set rows none) distinct)

inserted_row : (rows : Rows) (i buckets : ℕ) (set : Attributes) (cell : Cell Payload) → group_at rows set ≡ None → AddsTo buckets set cell rows (insert rows i (first_row buckets set cell))
inserted_row rows i buckets set cell none =
    started sets_total sets_exact (λ (g : Grouped). with_held g cell.time cell.held) (no_group buckets) (group_at rows) (group_at (insert rows i (first_row buckets set cell))) set
    (with_held (no_group buckets) cell.time cell.held) none refl
    (λ q. lookup-insert (eq_by_cmp_equiv sets_total) set (with_held (no_group buckets) cell.time cell.held) q rows i (none_passes_from_lookup (E set) rows none))

-- a look-up in rows and then in others
beside : (rows o n : Rows) (q : Attributes) → group_at o q ≡ group_at n q → group_at (rows ++ o) q ≡ group_at (rows ++ n) q
beside [] o n q e = e
beside (r ∷ rows) o n q e = ap (cond (E q r.0) (Some r.1)) (beside rows o n q e)

past_rows : (rows o : Rows) (q : Attributes) → group_at rows q ≡ None → group_at (rows ++ o) q ≡ group_at o q
past_rows [] o q none = refl
past_rows (r ∷ rows) o q none =
    elim (E q r.0) as (λ b. cond b (Some r.1) (group_at rows q) ≡ None → cond b (Some r.1) (group_at (rows ++ o) q) ≡ group_at o q) [
      | true ↦ λ n. cc
      | false ↦ λ n. past_rows rows o q n
    ] none

pub none_beside : (rows o : Rows) (q : Attributes) → group_at rows q ≡ None → group_at o q ≡ None → group_at (rows ++ o) q ≡ None
none_beside rows o q none absent = past_rows rows o q none ∙ absent

-- what is added to one of the others
pub adds_beside : (rows o n : Rows) (set : Attributes) (cell : Cell Payload) → group_at rows set ≡ None → AddsHeld set cell o n → AddsHeld set cell (rows ++ o) (rows ++ n)
adds_beside rows o n set cell none adds q =
    elim (E q set) as (λ b. E q set ≡ b → group_at n q ≡ cond b (option_map (λ (g : Grouped). with_held g cell.time cell.held) (group_at o q)) (group_at o q)
    → group_at (rows ++ n) q ≡ cond b (option_map (λ (g : Grouped). with_held g cell.time cell.held) (group_at (rows ++ o) q)) (group_at (rows ++ o) q)) [
      | true ↦ λ t a. let here : group_at rows q ≡ None = ap (group_at rows) (same_set q set t) ∙ none in
          past_rows rows n q here ∙ a ∙ ap (option_map (λ (g : Grouped). with_held g cell.time cell.held)) (sym (past_rows rows o q here))
      | false ↦ λ t a. beside rows n o q a
    ] refl (adds q)

pub adds_to_other : (rows o n : Rows) (buckets : ℕ) (set : Attributes) (cell : Cell Payload) → group_at rows set ≡ None → is_some (group_at o set) ≡ true → AddsHeld set cell o n → AddsTo buckets set cell (rows ++ o) (rows ++ n)
adds_to_other rows o n buckets set cell none there adds =
    held_first sets_total sets_exact (λ (g : Grouped). with_held g cell.time cell.held) (no_group buckets) (group_at (rows ++ o)) (group_at (rows ++ n)) set (ap is_some (past_rows rows o set none) ∙ there) (adds_beside rows o n set cell none adds)

pub others_stay : (rows o n : Rows) (places : List (ℕ × ℕ)) → IsIndexed rows o places → keys_of n ≡ keys_of o → IsIndexed rows n places
others_stay rows o n places is keys = record {
  distinct = subst (λ (ks : List Attributes). IsDistinct E ks) (keys-append rows o ∙ ap (λ l. keys_of rows ++ l) (sym keys) ∙ sym (keys-append rows n)) is.distinct;
  indexed = is.indexed;
}

-- one more of the others
behind : (rows o : Rows) (row : Attributes × Grouped) → insert (rows ++ o) (length (rows ++ o)) row ≡ rows ++ (o ++ row ∷ [])
behind rows o row = insert_end (rows ++ o) row ∙ append_assoc rows o (row ∷ [])

pub other_added : (rows o n : Rows) (buckets : ℕ) (set : Attributes) (cell : Cell Payload) → group_at (rows ++ o) set ≡ None → n ≡ o ++ first_row buckets set cell ∷ [] → AddsTo buckets set cell (rows ++ o) (rows ++ n)
other_added rows o n buckets set cell none is =
    subst (λ (all : Rows). AddsTo buckets set cell (rows ++ o) all) (behind rows o (first_row buckets set cell) ∙ ap (λ l. rows ++ l) (sym is)) (inserted_row (rows ++ o) (length (rows ++ o)) buckets set cell none)

pub other_indexed : (rows o n : Rows) (places : List (ℕ × ℕ)) (buckets : ℕ) (set : Attributes) (cell : Cell Payload) → IsIndexed rows o places → group_at (rows ++ o) set ≡ None → n ≡ o ++ first_row buckets set cell ∷ [] → IsIndexed rows n places
other_indexed rows o n places buckets set cell is none appended = record {
  distinct = subst (λ (all : Rows). IsDistinct E (keys_of all)) (behind rows o (first_row buckets set cell) ∙ ap (λ l. rows ++ l) (sym appended))
      (distinct_inserted (rows ++ o) (length (rows ++ o)) set (with_held (no_group buckets) cell.time cell.held) is.distinct none);
  indexed = is.indexed;
}

nothing_indexed : IsIndexed [] [] []
unfolding IsDistinct
nothing_indexed = record { distinct = tt; indexed = λ place set h. cc }

pub empty_indexed : (rows others : Rows) (places : List (ℕ × ℕ)) → rows ≡ [] → others ≡ [] → places ≡ [] → IsIndexed rows others places
empty_indexed rows others places r o p = subst (λ (all : Rows × (Rows × List (ℕ × ℕ))). IsIndexed all.0 all.1.0 all.1.1) (λ i. (sym r i, (sym o i, sym p i))) nothing_indexed

-- a row that is changed where it stands
pub written : (rows : Rows) (place : ℕ) (set : Attributes) (g w : Grouped) → slice_get rows place ≡ Some (set, g) → slice_set rows place (set, w) ≡ set_value_at rows place w
written [] place set g w h = cc
written (r ∷ rows) zero set g w h = let same : r.0 ≡ set = cc in λ i. (sym same i, w) ∷ rows
written (r ∷ rows) (suc i) set g w h = ap (λ l. r ∷ l) (written rows i set g w h)

-- the row that a read gave
pub row_read_at : (rows : Rows) (place : ℕ) (e : Attributes × Grouped) → place < length rows → e ≡ get_or rows place e → slice_get rows place ≡ Some e
row_read_at rows place e within is = slice_get-get_or rows place e within ∙ ap (λ (r : Attributes × Grouped). Some r) (sym is)

-- a place where another set stands
pub other_set : (rows : Rows) (place : ℕ) (e : Attributes × Grouped) (set : Attributes) → slice_get rows place ≡ Some e → set_eq e.0 set ≡ false → slice_get (keys_of rows) place ≡ Some set → ⊥
other_set rows place e set here differs there =
    let same : Some e.0 ≡ Some set = sym (key_at rows place e.0 e.1 here) ∙ there in
    let one : e.0 ≡ set = cc in
    true≢false (sym (set_same e.0 set one) ∙ differs)
  where
    set_same : (x y : Attributes) → x ≡ y → set_eq x y ≡ true
    set_same x y e = ap (set_eq x) (sym e) ∙ set_laws.laws-law.refl x

pub set_at : (rows : Rows) (place : ℕ) (e : Attributes × Grouped) (set : Attributes) → slice_get rows place ≡ Some e → set_eq e.0 set ≡ true → slice_get (keys_of rows) place ≡ Some set
set_at rows place e set here same = key_at rows place e.0 e.1 here ∙ ap (λ (k : Attributes). Some k) (same_set e.0 set (sym (ties e.0 set) ∙ same))

module _ (rows others : Rows) (places : List (ℕ × ℕ)) (is : IsIndexed rows others places) where
  row_there : (place : ℕ) (set : Attributes) (g : Grouped) → slice_get rows place ≡ Some (set, g) → Some g ≡ group_at (rows ++ others) set
  row_there place set g here = sym (lookup_from_place (eq_by_cmp_equiv sets_total) (rows ++ others) place set g is.distinct (get-left rows others place (set, g) here))

  -- one point more can be counted in each of the others
  pub others_room : HasRoom (rows ++ others) → HasRoom others
  others_room room q = by (group_at others q) refl
    where
      by : (x : Option Grouped) → group_at others q ≡ x → IfSome (group_at others q) (λ g. (g.points + 1 < 2 ^ 64) × (g.conflicts + 1 < 2 ^ 64))
      by None e = subst (λ (o : Option Grouped). IfSome o (λ g. (g.points + 1 < 2 ^ 64) × (g.conflicts + 1 < 2 ^ 64))) (sym e) tt
      by (Some g) e =
          let at = place_from_lookup (E q) others g e in
          let here : slice_get (rows ++ others) (length rows + at.0) ≡ Some (at.1, g) = get-right rows others at.0 ∙ at.2 in
          let there : Some g ≡ group_at (rows ++ others) at.1 = sym (lookup_from_place (eq_by_cmp_equiv sets_total) (rows ++ others) (length rows + at.0) at.1 g is.distinct here) in
          subst (λ (o : Option Grouped). IfSome o (λ g. (g.points + 1 < 2 ^ 64) × (g.conflicts + 1 < 2 ^ 64))) (sym e) (room_of (rows ++ others) at.1 g room there)

  -- one point more can be counted in each row
  pub each_room : HasRoom (rows ++ others) → EachHasRoom rows
  each_room room place e here = room_of (rows ++ others) e.0 e.1 room (row_there place e.0 e.1 here)

  module _ (place : ℕ) (set : Attributes) (cell : Cell Payload) (new : Rows) (adds : AddsAt place set cell rows new) where
    pub there_in_rows : is_some (group_at (rows ++ others) set) ≡ true
    there_in_rows = sym (ap is_some (row_there place set adds.0 adds.1))

    pub adds_in_rows : AddsHeld set cell (rows ++ others) (new ++ others)
    adds_in_rows =
        let g = adds.0 in
        let w : Grouped = with_held g cell.time cell.held in
        let here = get-left rows others place (set, g) adds.1 in
        let put : new ++ others ≡ set_value_at (rows ++ others) place w = ap (λ l. l ++ others) adds.2 ∙ sym (set-left rows others place (set, g) w adds.1) in
        subst (λ (all : Rows). AddsHeld set cell (rows ++ others) all) (sym put)
        (changed_at (hash_map (rows ++ others) (tt {0}) 0) place set g g unique (sym here) (sym (slice_get-map (λ (e : Attributes × Grouped). e.1) (rows ++ others) place ∙ ap (option_map (λ (e : Attributes × Grouped). e.1)) here))
        (λ (x : Grouped). with_held x cell.time cell.held) w refl)
      where
        unique : IsDistinct set_eq (keys_of (rows ++ others))
        unique = subst (λ (e : Attributes → Attributes → Bool). IsDistinct e (keys_of (rows ++ others))) (λ i x y. sym (ties x y) i) is.distinct

    pub adds_to_row : (buckets : ℕ) → AddsTo buckets set cell (rows ++ others) (new ++ others)
    adds_to_row buckets = held_first sets_total sets_exact (λ (g : Grouped). with_held g cell.time cell.held) (no_group buckets) (group_at (rows ++ others)) (group_at (new ++ others)) set there_in_rows adds_in_rows

    pub rows_stay : IsIndexed new others places
    rows_stay =
        let w : Grouped = with_held adds.0 cell.time cell.held in
        let keys : keys_of new ≡ keys_of rows = ap (λ (l : Rows). keys_of l) adds.2 ∙ keys-set rows place w in
        record {
          distinct = subst (λ (ks : List Attributes). IsDistinct E ks) (keys-append rows others ∙ ap (λ l. l ++ keys_of others) (sym keys) ∙ sym (keys-append new others)) is.distinct;
          indexed = λ i k h. is.indexed i k (ap (λ (l : List Attributes). slice_get l i) (sym keys) ∙ h);
        }

  -- a set whose hash tells of no place where it stands has none of the rows
  pub absent_in_rows : (set : Attributes) (found : Option ℕ) → found ≡ lookup (nat_eq (pairs_hash set)) places → ((place : ℕ) → found ≡ Some place → slice_get (keys_of rows) place ≡ Some set → ⊥) → group_at rows set ≡ None
  absent_in_rows set found told not_there = by (group_at rows set) refl
    where
      by : (x : Option Grouped) → group_at rows set ≡ x → x ≡ None
      by None e = refl
      by (Some g) e =
          let at = place_from_lookup (E set) rows g e in
          let key : slice_get (keys_of rows) at.0 ≡ Some set = key_at rows at.0 at.1 g at.2 ∙ ap (λ (k : Attributes). Some k) (sym (same_set set at.1 at.3)) in
          absurd (not_there at.0 (told ∙ is.indexed at.0 set key) key)

  pub no_row : (set : Attributes) (hash : ℕ) (found : Option ℕ) (slice : Rows) → hash ≡ pairs_hash set → found ≡ lookup (nat_eq hash) places → slice ≡ rows
      → ((place : ℕ) → found ≡ Some place → slice_get (keys_of slice) place ≡ Some set → ⊥) → group_at rows set ≡ None
  no_row set hash found slice hashed told same not_there =
      absent_in_rows set found (told ∙ ap (λ (n : ℕ). lookup (nat_eq n) places) hashed)
      (λ place is there. not_there place is (ap (λ (l : Rows). slice_get (keys_of l) place) same ∙ there))

  -- a set that neither the rows nor the others have, after the others were asked
  pub still_free : (set : Attributes) (n : Rows) (held : Bool) → group_at rows set ≡ None → held ≡ is_some (group_at others set) → held ≡ false → keys_of n ≡ keys_of others → n ≡ others
      → IsIndexed rows n places × (group_at (rows ++ n) set ≡ None)
  still_free set n held none asked not_held keys kept =
      let away : group_at others set ≡ None = absent sets_total sets_exact (λ (g : Grouped). g) (group_at others set) (sym asked ∙ not_held) in
      (others_stay rows others n places is keys, ap (λ (o : Rows). group_at (rows ++ o) set) kept ∙ none_beside rows others set none away)

  module _ (buckets : ℕ) (set : Attributes) (cell : Cell Payload) (hash : ℕ) (new : Rows) (told : List (ℕ × ℕ)) (pushes : Pushes hash (first_row buckets set cell) rows new places told) (none : group_at (rows ++ others) set ≡ None) where
    before : insert (rows ++ others) (length rows) (first_row buckets set cell) ≡ new ++ others
    before = between rows others (first_row buckets set cell) ∙ ap (λ l. l ++ others) (sym pushes.0)

    pub row_added : AddsTo buckets set cell (rows ++ others) (new ++ others)
    row_added = subst (λ (all : Rows). AddsTo buckets set cell (rows ++ others) all) before (inserted_row (rows ++ others) (length rows) buckets set cell none)

    pub row_indexed : hash ≡ pairs_hash set → lookup (nat_eq hash) places ≡ None → IsIndexed new others told
    row_indexed hashed free = record {
      distinct = subst (λ (all : Rows). IsDistinct E (keys_of all)) before (distinct_inserted (rows ++ others) (length rows) set (with_held (no_group buckets) cell.time cell.held) is.distinct none);
      indexed = λ i k h. by i k (last_key rows (first_row buckets set cell) i k (ap (λ (l : Rows). slice_get (keys_of l) i) (sym pushes.0) ∙ h));
    }
      where
        kept : (k : Attributes) (i : ℕ) (b : Bool) → nat_eq hash (pairs_hash k) ≡ b → lookup (nat_eq (pairs_hash k)) places ≡ Some i → cond b (Some (length rows)) (lookup (nat_eq (pairs_hash k)) places) ≡ Some i
        kept k i true t found = let one : lookup (nat_eq (pairs_hash k)) places ≡ None = ap (λ (n : ℕ). lookup (nat_eq n) places) (sym (eqb-true hash (pairs_hash k) t)) ∙ free in cc
        kept k i false t found = found

        last : (k : Attributes) → k ≡ set → lookup (nat_eq (pairs_hash k)) told ≡ Some (length rows)
        last k e = pushes.1 (pairs_hash k) ∙ ap (λ b. cond b (Some (length rows)) (lookup (nat_eq (pairs_hash k)) places)) (eq-eqb hash (pairs_hash k) (hashed ∙ ap pairs_hash (sym e)))

        by : (i : ℕ) (k : Attributes) → (slice_get (keys_of rows) i ≡ Some k) ⊎ ((i ≡ length rows) × (k ≡ set)) → lookup (nat_eq (pairs_hash k)) told ≡ Some i
        by i k (inl h) = pushes.1 (pairs_hash k) ∙ kept k i (nat_eq hash (pairs_hash k)) refl (is.indexed i k h)
        by i k (inr w) = last k w.1 ∙ ap (λ (n : ℕ). Some n) (sym w.0)

-- what stands where a growth may have been refused
pub other_tried : {A F : Type 0} (r : Result A F) (rows o n : Rows) (places : List (ℕ × ℕ)) (buckets : ℕ) (set : Attributes) (cell : Cell Payload) → IsIndexed rows o places → group_at (rows ++ o) set ≡ None
    → OnOk r (n ≡ o ++ first_row buckets set cell ∷ []) → OnErr r (n ≡ o) → IsIndexed rows n places
other_tried (Ok a) rows o n places buckets set cell is none ok err = other_indexed rows o n places buckets set cell is none ok
other_tried (Err f) rows o n places buckets set cell is none ok err = others_stay rows o n places is (ap (λ (l : Rows). keys_of l) err)

pub row_tried : {A F : Type 0} (r : Result A F) (rows others new : Rows) (places told : List (ℕ × ℕ)) (buckets : ℕ) (set : Attributes) (cell : Cell Payload) (hash : ℕ) → IsIndexed rows others places → group_at (rows ++ others) set ≡ None
    → hash ≡ pairs_hash set → lookup (nat_eq hash) places ≡ None → OnOk r (Pushes hash (first_row buckets set cell) rows new places told) → OnErr r ((new ≡ rows) × (told ≡ places)) → IsIndexed new others told
row_tried (Ok a) rows others new places told buckets set cell hash is none hashed free ok err = row_indexed rows others places is buckets set cell hash new told ok none hashed free
row_tried (Err f) rows others new places told buckets set cell hash is none hashed free ok err = subst (λ (all : Rows × List (ℕ × ℕ)). IsIndexed all.0 others all.1) (λ i. (sym err.0 i, sym err.1 i)) is
