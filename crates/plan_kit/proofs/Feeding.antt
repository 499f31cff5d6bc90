-- The feeds of an instrument from the places of the views that match it, and those of all instruments.
use Rattle.std.proofs.Common.{◌≡◌, ℕ, ◌+◌, ◌<◌, ◌==◌, ◌&&◌, ◌||◌, Bool, true, false, not, Option, None, cond, List, [], ◌∷◌, ◌++◌, filter, length, drop, get_or, slice_get, refl, sym, ap, ◌∙◌, arith, true≢false, append_assoc}
use Rattle.std.specs.List.{filter_map, cons_option, flat_map, enumerate_from, list_any}
use Rattle.std.specs.Option.{option_and_then}
use Rattle.std.proofs.lemmas.Bool.{ne_eqb}
use Rattle.std.proofs.lemmas.List.{drop_more}
use Rattle.plan_kit.specs.declared.fit.Fit.TheVariants.{Nothing}
use Rattle.plan_kit.specs.declared.instrument.Instrument.{Instrument}
use Rattle.plan_kit.specs.declared.instrument.Kind.{Kind}
use Rattle.plan_kit.specs.declared.instrument.Kind.TheVariants as kinds
use Rattle.plan_kit.specs.declared.view.Aggregation.{Aggregation}
use Rattle.plan_kit.specs.declared.view.Aggregation.TheVariants as ways
use Rattle.plan_kit.specs.declared.view.View.{View}
use Rattle.plan_kit.specs.declared.wanted.Wanted.{Wanted}
use Rattle.plan_kit.specs.Aggregations.{fit}
use Rattle.plan_kit.specs.Feeds.{default_view, or_default, feed_by, fed_by, wanted_by, own_feeds}
use Rattle.plan_kit.specs.Matching.{places, places_from, is_of, is_drop}
use Rattle.plan_kit.specs.Owners.{owner_of}
use Rattle.plan_kit.specs.Views.{view_fits}
use Rattle.plan_kit.proofs.Matching.{through_places}

abbrev has_none : {A : Type 0} → List A → Bool
has_none [] = true
has_none (x ∷ xs) = false

none_at_places : {A : Type 0} (p : A → Bool) (n : ℕ) (xs : List A) → (length (places_from p n xs) == 0) ≡ has_none (filter p xs)
none_at_places p n [] = refl
none_at_places p n (x ∷ xs) = elim (p x) as (λ b. (length (cond b (n ∷ places_from p (n + 1) xs) (places_from p (n + 1) xs)) == 0) ≡ has_none (cond b (x ∷ filter p xs) (filter p xs))) [
  | true ↦ ne_eqb (length (n ∷ places_from p (n + 1) xs)) 0 (omega arith)
  | false ↦ none_at_places p (n + 1) xs
]

and_false : (b : Bool) → false ≡ (b && false)
and_false true = refl
and_false false = refl

-- nothing passes where nothing of one sort does, and nothing of the other
none_of_both : {A : Type 0} (s f : A → Bool) (xs : List A) → has_none (filter f xs) ≡ (has_none (filter (λ x. not (s x) && f x) xs) && not (list_any (λ x. s x && f x) xs))
none_of_both s f [] = refl
none_of_both s f (x ∷ xs) =
    let F = filter f xs in
    let P = filter (λ x. not (s x) && f x) xs in
    let q = list_any (λ x. s x && f x) xs in
    elim (s x) as (λ a. has_none (cond (f x) (x ∷ F) F) ≡ (has_none (cond (not a && f x) (x ∷ P) P) && not ((a && f x) || q))) [
      | true ↦ elim (f x) as (λ b. has_none (cond b (x ∷ F) F) ≡ (has_none P && not (b || q))) [ true ↦ and_false (has_none P) | false ↦ none_of_both s f xs ]
      | false ↦ elim (f x) as (λ b. has_none (cond b (x ∷ F) F) ≡ (has_none (cond b (x ∷ P) P) && not q)) [ true ↦ refl | false ↦ none_of_both s f xs ]
    ]

-- what gives nothing may be left out
without : {A B : Type 0} (h : A → Option B) (s f : A → Bool) → ((x : A) → s x ≡ true → h x ≡ None) → (xs : List A) → filter_map h (filter (λ x. not (s x) && f x) xs) ≡ filter_map h (filter f xs)
without h s f none [] = refl
without h s f none (x ∷ xs) =
    let F = filter f xs in
    let P = filter (λ x. not (s x) && f x) xs in
    let rest = without h s f none xs in
    elim (s x) as (λ a. (a ≡ true → h x ≡ None) → filter_map h (cond (not a && f x) (x ∷ P) P) ≡ filter_map h (cond (f x) (x ∷ F) F)) [
      | true ↦ λ gives. elim (f x) as (λ b. filter_map h P ≡ filter_map h (cond b (x ∷ F) F)) [ true ↦ rest ∙ ap (λ o. cons_option o (filter_map h F)) (sym (gives refl)) | false ↦ rest ]
      | false ↦ λ _. elim (f x) as (λ b. filter_map h (cond b (x ∷ P) P) ≡ filter_map h (cond b (x ∷ F) F)) [ true ↦ ap (cons_option (h x)) rest | false ↦ rest ]
    ] (none x)

fit_drop : (kind : Kind) → fit kind ways.Drop ≡ Nothing
fit_drop kinds.Counter = refl
fit_drop kinds.UpDown = refl
fit_drop kinds.Gauge = refl
fit_drop kinds.Histogram = refl

fed_drop : (owner : ℕ) (i : Instrument) (v : View) (way : Aggregation) → is_drop way ≡ true → fed_by owner i v (fit i.kind way) ≡ None
fed_drop owner i v ways.Drop e = ap (fed_by owner i v) (fit_drop i.kind)
fed_drop owner i v ways.Default e = absurd (true≢false (sym e))
fed_drop owner i v ways.Sum e = absurd (true≢false (sym e))
fed_drop owner i v ways.LastValue e = absurd (true≢false (sym e))
fed_drop owner i v (ways.Buckets bounds) e = absurd (true≢false (sym e))

-- the feeds of the views that match are those of the views that match and do not drop
fed_without : (owner : ℕ) (i : Instrument) (views : List View) → filter_map (feed_by owner i) (filter (λ v. is_of false v && view_fits v i) views) ≡ filter_map (feed_by owner i) (filter (λ v. view_fits v i) views)
fed_without owner i views = without (feed_by owner i) (λ v. is_drop v.aggregation) (λ v. view_fits v i) (λ v e. fed_drop owner i v v.aggregation e) views

none_matches : (vs : List View) → has_none vs ≡ true → or_default vs ≡ default_view ∷ []
none_matches [] e = refl
none_matches (v ∷ vs) e = absurd (true≢false (sym e))

some_match : (vs : List View) → has_none vs ≡ false → or_default vs ≡ vs
some_match [] e = absurd (true≢false e)
some_match (v ∷ vs) e = refl

-- whether no view matches, where b says that none does that feeds, and d that one does that drops
tested : (views : List View) (i : Instrument) (ps : List ℕ) (b d : Bool) → ps ≡ places (λ v. is_of false v && view_fits v i) views → b ≡ (length ps == 0) → d ≡ list_any (λ v. is_of true v && view_fits v i) views → has_none (filter (λ v. view_fits v i) views) ≡ (b && not d)
tested views i ps b d is empty drops =
    none_of_both (λ v. is_drop v.aggregation) (λ v. view_fits v i) views
    ∙ sym (λ k. (empty ∙ ap (λ l. length l == 0) is ∙ none_at_places (λ v. is_of false v && view_fits v i) 0 views) k && not (drops k))

-- no view matches
pub wanted_default : (views : List View) (owner : ℕ) (i : Instrument) (ps : List ℕ) (b d : Bool) → ps ≡ places (λ v. is_of false v && view_fits v i) views → b ≡ (length ps == 0) → d ≡ list_any (λ v. is_of true v && view_fits v i) views → b ≡ true → d ≡ false → filter_map (feed_by owner i) (default_view ∷ []) ≡ wanted_by views owner i
wanted_default views owner i ps b d is empty drops none kept = ap (filter_map (feed_by owner i)) (sym (none_matches (filter (λ v. view_fits v i) views) (tested views i ps b d is empty drops ∙ (λ k. none k && not (kept k)))))

-- some view matches that does not drop
pub wanted_matching : (views : List View) (owner : ℕ) (i : Instrument) (ps : List ℕ) (b : Bool) → ps ≡ places (λ v. is_of false v && view_fits v i) views → b ≡ (length ps == 0) → b ≡ false → filter_map (λ n. option_and_then (feed_by owner i) (slice_get views n)) ps ≡ wanted_by views owner i
wanted_matching views owner i ps b is empty some =
    ap (filter_map (λ n. option_and_then (feed_by owner i) (slice_get views n))) is ∙ through_places (feed_by owner i) (λ v. is_of false v && view_fits v i) views
    ∙ fed_without owner i views
    ∙ ap (filter_map (feed_by owner i)) (sym (some_match (filter (λ v. view_fits v i) views) (tested views i ps b (list_any (λ v. is_of true v && view_fits v i) views) is empty refl ∙ ap (λ c. c && not (list_any (λ v. is_of true v && view_fits v i) views)) some)))

-- all views that match drop
pub wanted_nothing : (views : List View) (owner : ℕ) (i : Instrument) (ps : List ℕ) (b d : Bool) → ps ≡ places (λ v. is_of false v && view_fits v i) views → b ≡ (length ps == 0) → d ≡ list_any (λ v. is_of true v && view_fits v i) views → b ≡ true → d ≡ true → wanted_by views owner i ≡ []
wanted_nothing views owner i ps b d is empty drops none dropped =
    ap (filter_map (feed_by owner i)) (some_match (filter (λ v. view_fits v i) views) (tested views i ps b d is empty drops ∙ (λ k. none k && not (dropped k))))
    ∙ sym (fed_without owner i views)
    ∙ ap (filter_map (feed_by owner i)) (emptied (filter (λ v. is_of false v && view_fits v i) views) (sym (none_at_places (λ v. is_of false v && view_fits v i) 0 views) ∙ ap (λ l. length l == 0) (sym is) ∙ sym empty ∙ none))
  where
    emptied : (vs : List View) → has_none vs ≡ true → vs ≡ []
    emptied [] e = refl
    emptied (v ∷ vs) e = absurd (true≢false (sym e))

-- the feeds of the instruments from a place on
abbrev pub feeds_from : List View → List Instrument → ℕ → List Wanted
feeds_from views is n = flat_map (own_feeds views is) (enumerate_from n (drop n is))

pub feeds_more : (views : List View) (is : List Instrument) (n : ℕ) (x : Instrument) → n < length is → x ≡ get_or is n x → feeds_from views is n ≡ own_feeds views is (n, x) ++ feeds_from views is (n + 1)
feeds_more views is n x h at = ap (λ l. flat_map (own_feeds views is) (enumerate_from n l)) (drop_more is n x h ∙ ap (λ y. y ∷ drop (n + 1) is) (sym at))

-- one instrument with feeds of its own
pub feeds_own : (views : List View) (is : List Instrument) (n : ℕ) (x : Instrument) (wanted new all : List Wanted) → n < length is → x ≡ get_or is n x → (owner_of is x == n) ≡ true → new ≡ wanted ++ wanted_by views n x → wanted ++ feeds_from views is n ≡ all → new ++ feeds_from views is (n + 1) ≡ all
feeds_own views is n x wanted new all h at own added so =
    ap (λ l. l ++ feeds_from views is (n + 1)) added ∙ append_assoc wanted (wanted_by views n x) (feeds_from views is (n + 1))
    ∙ ap (λ (b : Bool). wanted ++ (cond b (wanted_by views n x) [] ++ feeds_from views is (n + 1))) (sym own)
    ∙ ap (λ l. wanted ++ l) (sym (feeds_more views is n x h at)) ∙ so

-- one instrument without
pub feeds_shared : (views : List View) (is : List Instrument) (n : ℕ) (x : Instrument) (wanted all : List Wanted) → n < length is → x ≡ get_or is n x → (owner_of is x == n) ≡ false → wanted ++ feeds_from views is n ≡ all → wanted ++ feeds_from views is (n + 1) ≡ all
feeds_shared views is n x wanted all h at own so =
    ap (λ (b : Bool). wanted ++ (cond b (wanted_by views n x) [] ++ feeds_from views is (n + 1))) (sym own)
    ∙ ap (λ l. wanted ++ l) (sym (feeds_more views is n x h at)) ∙ so
