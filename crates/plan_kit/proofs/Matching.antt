-- Places of views: merged, filtered, and one view more.
use Rattle.std.proofs.Common.{◌≡◌, ℕ, zero, suc, ◌+◌, ◌<◌, ◌≤◌, ◌&&◌, ◌||◌, Bool, true, false, not, cond, List, [], ◌∷◌, ◌++◌, filter, length, take, get_or, Option, Some, None, position, slice_get, refl, sym, ap, ◌∙◌, subst, arith, append-nil, Vec, true≢false}
use Rattle.std.specs.List.{filter_map, cons_option, position_from, list_any}
use Rattle.std.specs.Option.{option_and_then, option_map_or}
use Rattle.std.specs.HashMap.{HashMap, get_by}
use Rattle.std.proofs.lemmas.Bool.{lt-ltb, le-ltb}
use Rattle.std.proofs.lemmas.List.{take_more}
use Rattle.std.proofs.lemmas.Iterator.Adapters.{position_from-zero}
use Rattle.attr_kit.specs.Exact.{exact_texts}
use Rattle.plan_kit.specs.declared.view.NameRule.TheVariants as rules
use Rattle.plan_kit.specs.declared.view.NameRule.{NameRule}
use Rattle.plan_kit.specs.declared.view.View.{View}
use Rattle.plan_kit.specs.declared.instrument.Instrument.{Instrument}
use Rattle.plan_kit.specs.declared.instrument.Kind.{Kind}
use Rattle.plan_kit.specs.declared.instrument.Kind.TheVariants as kinds
use Rattle.plan_kit.specs.declared.view.Aggregation.{Aggregation}
use Rattle.plan_kit.specs.declared.view.Aggregation.TheVariants as ways
use Rattle.plan_kit.specs.Aggregations.{is_refused}
use Rattle.plan_kit.specs.Matching.{places, places_from, holds_at, merge, merge_front, places_under, IsIndex, is_of, is_drop, names, rule_names, is_every, rule_is_every, others_fit}
use Rattle.plan_kit.specs.Names.{lower}
use Rattle.plan_kit.specs.Views.{text_eq, name_fits, view_fits, is_bad_view}

pub merge_nil : (xs : List ℕ) → merge xs [] ≡ xs
merge_nil [] = refl
merge_nil (x ∷ xs) = ap (λ l. x ∷ l) (merge_nil xs)

pub merge_none : (xs ys : List ℕ) → length ys ≡ 0 → merge xs ys ≡ xs
merge_none xs [] h = merge_nil xs
merge_none xs (y ∷ ys) h = absurd (omega arith)

-- the list is empty, or its first number is at least n
abbrev Starts : ℕ → List ℕ → Type 0
Starts n [] = Unit {0}
Starts n (y ∷ ys) = n ≤ y

front_below : (x : ℕ) (more : List ℕ → List ℕ) (ys : List ℕ) → Starts (x + 1) ys → merge_front x more ys ≡ x ∷ more ys
front_below x more [] s = refl
front_below x more (y ∷ ys) s = ap (λ b. cond b (x ∷ more (y ∷ ys)) (y ∷ merge_front x more ys)) (lt-ltb x y (omega arith))

merge_above : (n : ℕ) (xs ys : List ℕ) → Starts (n + 1) xs → merge xs (n ∷ ys) ≡ n ∷ merge xs ys
merge_above n [] ys s = refl
merge_above n (x ∷ xs) ys s = ap (λ b. cond b (x ∷ merge xs (n ∷ ys)) (n ∷ merge_front x (merge xs) ys)) (le-ltb x n (omega arith))

or_pairs : (a b c d : Bool) → ((a || b) || (c || d)) ≡ ((a || c) || (b || d))
or_pairs true b c d = refl
or_pairs false true true d = refl
or_pairs false true false d = refl
or_pairs false false c d = refl

module _ {A : Type 0} where
  places_start : (p : A → Bool) (m n : ℕ) (xs : List A) → m ≤ n → Starts m (places_from p n xs)
  places_start p m n [] h = tt
  places_start p m n (x ∷ xs) h = elim (p x) as (λ b. Starts m (cond b (n ∷ places_from p (n + 1) xs) (places_from p (n + 1) xs))) [ true ↦ h | false ↦ places_start p m (n + 1) xs (omega arith) ]

  -- the places of two tests that never both pass, merged
  merge_places_from : (p q : A → Bool) → ((x : A) → (p x && q x) ≡ false) → (n : ℕ) (xs : List A) → merge (places_from p n xs) (places_from q n xs) ≡ places_from (λ x. p x || q x) n xs
  merge_places_from p q apart n [] = refl
  merge_places_from p q apart n (x ∷ xs) =
      let P = places_from p (n + 1) xs in
      let Q = places_from q (n + 1) xs in
      let R = places_from (λ x. p x || q x) (n + 1) xs in
      elim (p x) as (λ a. (a && q x) ≡ false → merge (cond a (n ∷ P) P) (cond (q x) (n ∷ Q) Q) ≡ cond (a || q x) (n ∷ R) R) [
        | true ↦ λ e. ap (λ b. merge (n ∷ P) (cond b (n ∷ Q) Q)) e ∙ front_below n (merge P) Q (places_start q (n + 1) (n + 1) xs (omega arith)) ∙ ap (λ l. n ∷ l) (merge_places_from p q apart (n + 1) xs)
        | false ↦ λ _. elim (q x) as (λ b. merge P (cond b (n ∷ Q) Q) ≡ cond b (n ∷ R) R) [
          | true ↦ merge_above n P Q (places_start p (n + 1) (n + 1) xs (omega arith)) ∙ ap (λ l. n ∷ l) (merge_places_from p q apart (n + 1) xs)
          | false ↦ merge_places_from p q apart (n + 1) xs
        ]
      ] (apart x)

  pub merge_places : (p q : A → Bool) → ((x : A) → (p x && q x) ≡ false) → (xs : List A) → merge (places p xs) (places q xs) ≡ places (λ x. p x || q x) xs
  merge_places p q apart xs = merge_places_from p q apart 0 xs

  -- the list stands in another from place n on
  abbrev pub StandsAt : List A → ℕ → List A → Type 0
  StandsAt all n xs = (k : ℕ) → slice_get all (n + k) ≡ slice_get xs k

  pub here : (all : List A) (n : ℕ) (x : A) (xs : List A) → StandsAt all n (x ∷ xs) → slice_get all n ≡ Some x
  here all n x xs s = subst (λ (m : ℕ). slice_get all m ≡ Some x) (omega arith) (s zero)

  pub later : (all : List A) (n : ℕ) (x : A) (xs : List A) → StandsAt all n (x ∷ xs) → StandsAt all (n + 1) xs
  later all n x xs s k = subst (λ (m : ℕ). slice_get all m ≡ slice_get xs k) (omega arith) (s (suc k))

  pub whole : (xs : List A) → StandsAt xs 0 xs
  whole xs k = ap (slice_get xs) (omega arith)

  filter_places_from : (all : List A) (p t : A → Bool) (n : ℕ) (xs : List A) → StandsAt all n xs → filter (holds_at all t) (places_from p n xs) ≡ places_from (λ x. p x && t x) n xs
  filter_places_from all p t n [] s = refl
  filter_places_from all p t n (x ∷ xs) s =
      let P = places_from p (n + 1) xs in
      let R = places_from (λ x. p x && t x) (n + 1) xs in
      let rest = filter_places_from all p t (n + 1) xs (later all n x xs s) in
      elim (p x) as (λ b. filter (holds_at all t) (cond b (n ∷ P) P) ≡ cond (b && t x) (n ∷ R) R) [
        | true ↦ (λ i. cond (option_map_or t (here all n x xs s i) false) (n ∷ rest i) (rest i))
        | false ↦ rest
      ]

  -- of the places of what passes, those of what passes another test too
  pub filter_places : (p t : A → Bool) (xs : List A) → filter (holds_at xs t) (places p xs) ≡ places (λ x. p x && t x) xs
  filter_places p t xs = filter_places_from xs p t 0 xs (whole xs)

  any_places_from : (all : List A) (p t : A → Bool) (n : ℕ) (xs : List A) → StandsAt all n xs → list_any (holds_at all t) (places_from p n xs) ≡ list_any (λ x. p x && t x) xs
  any_places_from all p t n [] s = refl
  any_places_from all p t n (x ∷ xs) s =
      let P = places_from p (n + 1) xs in
      let rest = any_places_from all p t (n + 1) xs (later all n x xs s) in
      elim (p x) as (λ b. list_any (holds_at all t) (cond b (n ∷ P) P) ≡ ((b && t x) || list_any (λ x. p x && t x) xs)) [
        | true ↦ (λ i. option_map_or t (here all n x xs s i) false || rest i)
        | false ↦ rest
      ]

  -- whether one of what passes passes another test too
  pub any_places : (p t : A → Bool) (xs : List A) → list_any (holds_at xs t) (places p xs) ≡ list_any (λ x. p x && t x) xs
  any_places p t xs = any_places_from xs p t 0 xs (whole xs)

  -- whether one passes either of two tests
  pub any_either : (p q : A → Bool) (xs : List A) → (list_any p xs || list_any q xs) ≡ list_any (λ x. p x || q x) xs
  any_either p q [] = refl
  any_either p q (x ∷ xs) = or_pairs (p x) (list_any p xs) (q x) (list_any q xs) ∙ ap (λ b. (p x || q x) || b) (any_either p q xs)

  through_places_from : {B : Type 0} (all : List A) (h : A → Option B) (p : A → Bool) (n : ℕ) (xs : List A) → StandsAt all n xs → filter_map (λ m. option_and_then h (slice_get all m)) (places_from p n xs) ≡ filter_map h (filter p xs)
  through_places_from all h p n [] s = refl
  through_places_from all h p n (x ∷ xs) s =
      let P = places_from p (n + 1) xs in
      let rest = through_places_from all h p (n + 1) xs (later all n x xs s) in
      elim (p x) as (λ b. filter_map (λ m. option_and_then h (slice_get all m)) (cond b (n ∷ P) P) ≡ filter_map h (cond b (x ∷ filter p xs) (filter p xs))) [
        | true ↦ (λ i. cons_option (option_and_then h (here all n x xs s i)) (rest i))
        | false ↦ rest
      ]

  -- what is made of the elements at the places of what passes
  pub through_places : {B : Type 0} (h : A → Option B) (p : A → Bool) (xs : List A) → filter_map (λ m. option_and_then h (slice_get xs m)) (places p xs) ≡ filter_map h (filter p xs)
  through_places h p xs = through_places_from xs h p 0 xs (whole xs)

  head_places_from : (p : A → Bool) (n : ℕ) (xs : List A) → slice_get (places_from p n xs) 0 ≡ position_from p n xs
  head_places_from p n [] = refl
  head_places_from p n (x ∷ xs) = elim (p x) as (λ b. slice_get (cond b (n ∷ places_from p (n + 1) xs) (places_from p (n + 1) xs)) 0 ≡ cond b (Some n) (position_from p (n + 1) xs)) [ true ↦ refl | false ↦ head_places_from p (n + 1) xs ]

  -- the first of the places
  pub head_places : (p : A → Bool) (xs : List A) → slice_get (places p xs) 0 ≡ position p xs
  head_places p xs = head_places_from p 0 xs ∙ sym (position_from-zero p xs)

  places_append : (p : A → Bool) (n : ℕ) (xs ys : List A) → places_from p n (xs ++ ys) ≡ places_from p n xs ++ places_from p (n + length xs) ys
  places_append p n [] ys = ap (λ (m : ℕ). places_from p m ys) (omega arith)
  places_append p n (x ∷ xs) ys =
      let all = places_from p (n + 1) (xs ++ ys) in
      let front = places_from p (n + 1) xs in
      let rest : all ≡ front ++ places_from p (n + length (x ∷ xs)) ys = places_append p (n + 1) xs ys ∙ ap (λ (m : ℕ). front ++ places_from p m ys) (omega arith) in
      elim (p x) as (λ b. cond b (n ∷ all) all ≡ cond b (n ∷ front) front ++ places_from p (n + length (x ∷ xs)) ys) [ true ↦ ap (λ l. n ∷ l) rest | false ↦ rest ]

  -- one element more
  pub places_more : (p : A → Bool) (xs : List A) (i : ℕ) (d : A) → i < length xs → places p (take (i + 1) xs) ≡ places p (take i xs) ++ cond (p (get_or xs i d)) (i ∷ []) []
  places_more p xs i d h =
      let len : length (take i xs) ≡ i = omega (arith, Rattle.std.proofs.Common.length-take {A = A}) in
      ap (places p) (take_more xs i d h) ∙ places_append p 0 (take i xs) (get_or xs i d ∷ []) ∙ ap (λ (m : ℕ). places p (take i xs) ++ places_from p m (get_or xs i d ∷ [])) (omega arith)

-- a first place under a name
places_under_by : {Y S : Type 0} (old new : HashMap (List ℕ) (Vec ℕ Y) S) (name q : List ℕ) (list : Vec ℕ Y) (place : ℕ) (b : Bool) → text_eq name q ≡ b → get_by (text_eq name) old ≡ None → get_by (text_eq q) new ≡ cond b (Some list) (get_by (text_eq q) old) → list.items ≡ place ∷ [] → places_under new q ≡ cond b (places_under old q ++ place ∷ []) (places_under old q)
places_under_by old new name q list place true e none now one =
    ap (λ o. option_map_or (λ l. l.items) o []) now ∙ one
    ∙ ap (λ l. l ++ place ∷ []) (sym (ap (λ o. option_map_or (λ l. l.items) o []) (subst (λ (n : List ℕ). get_by (text_eq n) old ≡ None) (exact_texts name q e) none)))
places_under_by old new name q list place false e none now one = ap (λ o. option_map_or (λ l. l.items) o []) now

pub places_under_new : {Y S : Type 0} (old new : HashMap (List ℕ) (Vec ℕ Y) S) (name q : List ℕ) (list : Vec ℕ Y) (place : ℕ) → get_by (text_eq name) old ≡ None → get_by (text_eq q) new ≡ cond (text_eq name q) (Some list) (get_by (text_eq q) old) → list.items ≡ place ∷ [] → places_under new q ≡ cond (text_eq name q) (places_under old q ++ place ∷ []) (places_under old q)
places_under_new old new name q list place none now one = places_under_by old new name q list place (text_eq name q) refl none now one

-- a rule of one name is none of every name
rules_apart : (name : List ℕ) (r : NameRule) → (rule_names name r && rule_is_every r) ≡ false
rules_apart name rules.Every = refl
rules_apart name (rules.Exact own) = elim (text_eq (lower own) name) as (λ b. (b && false) ≡ false) [ true ↦ refl | false ↦ refl ]

rules_together : (name : List ℕ) (r : NameRule) → (rule_names name r || rule_is_every r) ≡ name_fits r name
rules_together name rules.Every = refl
rules_together name (rules.Exact own) = elim (text_eq (lower own) name) as (λ b. (b || false) ≡ b) [ true ↦ refl | false ↦ refl ]

-- tests that are apart stay so within a sort
apart_within : (s a b : Bool) → (a && b) ≡ false → ((s && a) && (s && b)) ≡ false
apart_within true a b e = e
apart_within false a b e = refl

either_within : (s a b : Bool) → ((s && a) || (s && b)) ≡ (s && (a || b))
either_within true a b = refl
either_within false a b = refl

all_three : (a b c : Bool) → ((a && b) && c) ≡ (a && (b && c))
all_three true b c = refl
all_three false b c = refl

-- the places of the views of a sort whose names fit
pub named_places : (sort : Bool) (name : List ℕ) (vs : List View) → merge (places (λ v. is_of sort v && names name v) vs) (places (λ v. is_of sort v && is_every v) vs) ≡ places (λ v. is_of sort v && name_fits v.name name) vs
named_places sort name vs =
    merge_places (λ v. is_of sort v && names name v) (λ v. is_of sort v && is_every v) (λ v. apart_within (is_of sort v) (names name v) (is_every v) (rules_apart name v.name)) vs
    ∙ (λ i. places (λ v. (either_within (is_of sort v) (names name v) (is_every v) ∙ ap (λ b. is_of sort v && b) (rules_together name v.name)) i) vs)

-- those of them that fit beside their names match
pub fitting_places : (sort : Bool) (i : Instrument) (vs : List View) → filter (holds_at vs (others_fit i)) (places (λ v. is_of sort v && name_fits v.name i.name) vs) ≡ places (λ v. is_of sort v && view_fits v i) vs
fitting_places sort i vs =
    filter_places (λ v. is_of sort v && name_fits v.name i.name) (others_fit i) vs
    ∙ (λ k. places (λ v. all_three (is_of sort v) (name_fits v.name i.name) (others_fit i v) k) vs)

-- whether a view of a sort matches: one of this name, or one of every name
pub any_fitting : (sort : Bool) (i : Instrument) (vs : List View) → (list_any (holds_at vs (others_fit i)) (places (λ v. is_of sort v && names i.name v) vs) || list_any (holds_at vs (others_fit i)) (places (λ v. is_of sort v && is_every v) vs)) ≡ list_any (λ v. is_of sort v && view_fits v i) vs
any_fitting sort i vs =
    (λ k. any_places (λ v. is_of sort v && names i.name v) (others_fit i) vs k || any_places (λ v. is_of sort v && is_every v) (others_fit i) vs k)
    ∙ any_either (λ v. (is_of sort v && names i.name v) && others_fit i v) (λ v. (is_of sort v && is_every v) && others_fit i v) vs
    ∙ (λ k. list_any (λ v. fits_either (is_of sort v) (names i.name v) (is_every v) (others_fit i v) (name_fits v.name i.name) (rules_together i.name v.name) k) vs)
  where
    fits_either : (s a b o n : Bool) → (a || b) ≡ n → (((s && a) && o) || ((s && b) && o)) ≡ (s && (n && o))
    fits_either false a b o n e = refl
    fits_either true true b true n e = ap (λ m. m && true) e
    fits_either true true true false n e = ap (λ m. m && false) e
    fits_either true true false false n e = ap (λ m. m && false) e
    fits_either true false b o n e = ap (λ m. m && o) e

-- either of two tests, of which the second is made only where the first does not pass
pub first_passes : (r a b : Bool) → r ≡ a → r ≡ true → r ≡ (a || b)
first_passes r true b e passed = e
first_passes r false b e passed = absurd (true≢false (sym passed ∙ e))

pub second_tells : (r s a b : Bool) → r ≡ a → r ≡ false → s ≡ b → s ≡ (a || b)
second_tells r s true b e failed is = absurd (true≢false (sym e ∙ failed))
second_tells r s false b e failed is = is

refused_drop : (f : Bool) (kind : Kind) → false ≡ (f && is_refused kind ways.Drop)
refused_drop false kind = refl
refused_drop true kinds.Counter = refl
refused_drop true kinds.UpDown = refl
refused_drop true kinds.Gauge = refl
refused_drop true kinds.Histogram = refl

-- no view that drops is refused
refused_by : (f : Bool) (kind : Kind) (way : Aggregation) → ((not (is_drop way) && f) && is_refused kind way) ≡ (f && is_refused kind way)
refused_by f kind ways.Default = refl
refused_by f kind ways.Sum = refl
refused_by f kind ways.LastValue = refl
refused_by f kind (ways.Buckets bounds) = refl
refused_by f kind ways.Drop = refused_drop f kind

-- the refused ones of those that match and do not drop are all that match and are refused
pub bad_places : (i : Instrument) (vs : List View) → filter (holds_at vs (λ v. is_refused i.kind v.aggregation)) (places (λ v. is_of false v && view_fits v i) vs) ≡ places (is_bad_view i) vs
bad_places i vs =
    filter_places (λ v. is_of false v && view_fits v i) (λ v. is_refused i.kind v.aggregation) vs
    ∙ (λ k. places (λ v. refused_by (view_fits v i) i.kind v.aggregation k) vs)

place_more : (p : View → Bool) (vs : List View) (i : ℕ) (v : View) (b : Bool) → i < length vs → v ≡ get_or vs i v → p v ≡ b → places p (take (i + 1) vs) ≡ places p (take i vs) ++ cond b (i ∷ []) []
place_more p vs i v b h e is = places_more p vs i v h ∙ ap (λ x. places p (take i vs) ++ cond (p x) (i ∷ []) []) (sym e) ∙ ap (λ c. places p (take i vs) ++ cond c (i ∷ []) []) is

-- one view more that does not pass
place_same : (p : View → Bool) (vs : List View) (i : ℕ) (v : View) → i < length vs → v ≡ get_or vs i v → p v ≡ false → places p (take (i + 1) vs) ≡ places p (take i vs)
place_same p vs i v h e is = place_more p vs i v false h e is ∙ append-nil (places p (take i vs))

grown : (b : Bool) (ys : List ℕ) (i : ℕ) → cond b (ys ++ i ∷ []) ys ≡ ys ++ cond b (i ∷ []) []
grown true ys i = refl
grown false ys i = sym (append-nil ys)

-- an index of one view of every name more
pub index_every : {Y S : Type 0} (sort : Bool) (exact : HashMap (List ℕ) (Vec ℕ Y) S) (every new : List ℕ) (vs : List View) (i : ℕ) (v : View) → i < length vs → v ≡ get_or vs i v → is_of sort v ≡ true → v.name ≡ rules.Every → IsIndex sort exact every (take i vs) → new ≡ every ++ i ∷ [] → IsIndex sort exact new (take (i + 1) vs)
index_every sort exact every new vs i v h at of is index pushed = record {
  named = λ q. index.named q ∙ sym (place_same (λ w. is_of sort w && names q w) vs i v h at (λ k. of k && rule_names q (is k)));
  all = pushed ∙ ap (λ l. l ++ i ∷ []) index.all ∙ sym (place_more (λ w. is_of sort w && is_every w) vs i v true h at (λ k. of k && rule_is_every (is k)));
}

-- an index of one view of one name more
pub index_exact : {Y S : Type 0} (sort : Bool) (exact new : HashMap (List ℕ) (Vec ℕ Y) S) (every : List ℕ) (vs : List View) (i : ℕ) (v : View) (own : List ℕ) → i < length vs → v ≡ get_or vs i v → is_of sort v ≡ true → v.name ≡ rules.Exact own → IsIndex sort exact every (take i vs) → ((q : List ℕ) → places_under new q ≡ cond (text_eq (lower own) q) (places_under exact q ++ i ∷ []) (places_under exact q)) → IsIndex sort new every (take (i + 1) vs)
index_exact sort exact new every vs i v own h at of is index added = record {
  named = λ q. added q ∙ ap (λ l. cond (text_eq (lower own) q) (l ++ i ∷ []) l) (index.named q) ∙ grown (text_eq (lower own) q) (places (λ w. is_of sort w && names q w) (take i vs)) i ∙ sym (place_more (λ w. is_of sort w && names q w) vs i v (text_eq (lower own) q) h at (λ k. of k && rule_names q (is k)));
  all = index.all ∙ sym (place_same (λ w. is_of sort w && is_every w) vs i v h at (λ k. of k && rule_is_every (is k)));
}

-- an index beside one view more of the other sort
pub index_other : {Y S : Type 0} (sort : Bool) (exact : HashMap (List ℕ) (Vec ℕ Y) S) (every : List ℕ) (vs : List View) (i : ℕ) (v : View) → i < length vs → v ≡ get_or vs i v → is_of sort v ≡ false → IsIndex sort exact every (take i vs) → IsIndex sort exact every (take (i + 1) vs)
index_other sort exact every vs i v h at of index = record {
  named = λ q. index.named q ∙ sym (place_same (λ w. is_of sort w && names q w) vs i v h at (ap (λ b. b && names q v) of));
  all = index.all ∙ sym (place_same (λ w. is_of sort w && is_every w) vs i v h at (ap (λ b. b && is_every v) of));
}
