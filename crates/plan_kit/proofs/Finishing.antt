-- What a plan keeps holds what is asked of every plan.
use Rattle.std.proofs.Common.{◌≡◌, ℕ, zero, suc, ◌+◌, ◌<◌, ◌≤◌, ◌==◌, nat_lt, ◌&&◌, ◌||◌, IsTrue, Bool, true, false, cond, List, [], ◌∷◌, ◌++◌, filter, length, take, get_or, map, length-take, append-nil, not, Option, Some, None, slice_get, slice_index_or, refl, sym, ap, ◌∙◌, subst, arith, true≢false}
use Rattle.std.specs.Cmp.{IsEquivalence}
use Rattle.std.specs.List.{IsDistinct, AllByRecursion, list_all, filter_map, cons_option, flat_map, enumerate_from}
use Rattle.std.specs.Option.{option_map, option_map_or}
use Rattle.std.proofs.lemmas.Bool.{lt-ltb}
use Rattle.std.proofs.lemmas.List.Folds.{list_all-append}
use Rattle.std.proofs.lemmas.List.{take_more, map-append}
use Rattle.std.proofs.lemmas.Option.{slice_get-map, slice_get_within}
use borrow.Author.Tests.{eqb-true}
use Rattle.attr_kit.proofs.Firsts.{map_none}
use Rattle.attr_kit.proofs.Repeats.{distinct}
use Rattle.attr_kit.specs.Exact.{first_holds, second_holds}
use Rattle.attr_kit.specs.Refusing.{repeat}
use Rattle.point_kit.specs.contracts.stream.StreamEq.TheImpl.Laws as stream_laws
use Rattle.point_kit.specs.contracts.stream.StreamPartialEq.TheImpl as streams
use Rattle.point_kit.specs.declared.stream.Stream.{Stream}
use Rattle.plan_kit.specs.declared.fit.Fit.{Fit}
use Rattle.plan_kit.specs.declared.fit.Fit.TheVariants as fits
use Rattle.plan_kit.specs.declared.instrument.Instrument.{Instrument}
use Rattle.plan_kit.specs.declared.instrument.Kind.{Kind}
use Rattle.plan_kit.specs.declared.instrument.Kind.TheVariants as kinds
use Rattle.plan_kit.specs.declared.view.Aggregation.{Aggregation}
use Rattle.plan_kit.specs.declared.view.Aggregation.TheVariants as ways
use Rattle.plan_kit.specs.declared.view.View.{View}
use Rattle.plan_kit.specs.declared.wanted.Wanted.{Wanted}
use Rattle.plan_kit.specs.declared.feed.Feed.{Feed}
use Rattle.plan_kit.specs.declared.kept.KeptInstrument.{KeptInstrument}
use Rattle.plan_kit.specs.Aggregations.{fit, has_bad_bounds}
use Rattle.plan_kit.specs.Bounds.{are_bounds, default_bounds}
use Rattle.plan_kit.specs.Feeds.{default_view, or_default, fed_by, feed_by, wanted_by, own_feeds, wanted_of, feeds_from, plan_from}
use Rattle.plan_kit.specs.Kept.{kept_instrument, source_at, plan_from_parts, owner_rises, is_rightly_rising, AreSound}
use Rattle.plan_kit.specs.Owners.{is_same, owner_of}
use Rattle.plan_kit.specs.Plans.{Source, feeds_of, kind_of, lacks, AreFeeds, AreApart, AllRise, is_proper, rises, only_rises, IsPlan}
use Rattle.plan_kit.specs.SameStream.{same, clash_of}
use Rattle.plan_kit.specs.Exact.{exact_instruments}
use Rattle.plan_kit.specs.Views.{view_fits}
use Rattle.plan_kit.proofs.Matching.{StandsAt, here, later, whole}
use Rattle.plan_kit.proofs.Owning.{same_self}
use Rattle.plan_kit.proofs.Sharing.{first_passes, source_of, plan_shared}

-- a feed of a number below those of a list is none of them
lacks_below : (k owner n : ℕ) (ws : List Wanted) → k < n → lacks k (feeds_from owner n ws)
lacks_below k owner n [] h = tt
lacks_below k owner n (w ∷ ws) h = elim (w.owner == owner) as (λ b. lacks k (cond b (record { stream = n; keep = w.keep } ∷ feeds_from owner (n + 1) ws) (feeds_from owner (n + 1) ws))) [
  | true ↦ (omega arith, lacks_below k owner (n + 1) ws (omega arith))
  | false ↦ lacks_below k owner (n + 1) ws (omega arith)
]

feeds_from_are_feeds : (owner n m : ℕ) (ws : List Wanted) → n + length ws ≤ m → AreFeeds m (feeds_from owner n ws)
feeds_from_are_feeds owner n m [] h = tt
feeds_from_are_feeds owner n m (w ∷ ws) h = elim (w.owner == owner) as (λ b. AreFeeds m (cond b (record { stream = n; keep = w.keep } ∷ feeds_from owner (n + 1) ws) (feeds_from owner (n + 1) ws))) [
  | true ↦ (omega arith, lacks_below n owner (n + 1) ws (omega arith), feeds_from_are_feeds owner (n + 1) m ws (omega arith))
  | false ↦ feeds_from_are_feeds owner (n + 1) m ws (omega arith)
]

length_streams : (ws : List Wanted) → length (map (λ w. w.stream) ws) ≡ length ws
length_streams [] = refl
length_streams (w ∷ ws) = ap suc (length_streams ws)

source_feeds : (ws : List Wanted) (is : List Instrument) (o : Option Instrument) → AreFeeds (length ws) (option_map_or (λ s. s.feeds) (option_map (λ (i : Instrument). let s : Source = record { kind = i.kind; feeds = feeds_from (owner_of is i) 0 ws } in s) o) [])
source_feeds ws is None = tt
source_feeds ws is (Some i) = feeds_from_are_feeds (owner_of is i) 0 (length ws) ws (omega arith)

plan_feeds : (is : List Instrument) (ws : List Wanted) (limit i : ℕ) → AreFeeds (length (map (λ w. w.stream) ws)) (feeds_of (plan_from is ws limit) i)
plan_feeds is ws limit i =
    subst (λ (n : ℕ). AreFeeds n (feeds_of (plan_from is ws limit) i)) (sym (length_streams ws))
    (subst (λ (o : Option Source). AreFeeds (length ws) (option_map_or (λ s. s.feeds) o [])) (sym (slice_get-map (λ (i : Instrument). let s : Source = record { kind = i.kind; feeds = feeds_from (owner_of is i) 0 ws } in s) is i)) (source_feeds ws is (slice_get is i)))

differ : (x : Wanted) (ws : List Wanted) → AllByRecursion (λ y. same x y ≡ false) ws → (j : ℕ) (s : Stream) → slice_get (map (λ w. w.stream) ws) j ≡ Some s → (streams.ghosts).eq x.stream s ≡ false
differ x [] d j s e = cc
differ x (w ∷ ws) d zero s e = let k : w.stream ≡ s = cc in subst (λ (t : Stream). (streams.ghosts).eq x.stream t ≡ false) k d.0
differ x (w ∷ ws) d (suc j) s e = differ x ws d.1 j s e

apart_self : (x : Wanted) (ws : List Wanted) → AllByRecursion (λ y. same x y ≡ false) ws → (j : ℕ) (s : Stream) → Some x.stream ≡ Some s → slice_get (map (λ w. w.stream) ws) j ≡ Some s → ⊥
apart_self x ws d j s e f =
    let k : x.stream ≡ s = cc in
    true≢false (sym ((stream_laws.laws-law).refl x.stream) ∙ ap ((streams.ghosts).eq x.stream) k ∙ differ x ws d j s f)

streams_apart : (ws : List Wanted) → IsDistinct same ws → AreApart (map (λ w. w.stream) ws)
unfolding IsDistinct
streams_apart [] d i j s e f = cc
streams_apart (w ∷ ws) d zero zero s e f = refl
streams_apart (w ∷ ws) d zero (suc j) s e f = absurd (apart_self w ws d.0 j s e f)
streams_apart (w ∷ ws) d (suc i) zero s e f = absurd (apart_self w ws d.0 i s f e)
streams_apart (w ∷ ws) d (suc i) (suc j) s e f = ap suc (streams_apart ws d.1 i j s e f)

same_laws : IsEquivalence same
same_laws = record {
  refl = λ a. (stream_laws.laws-law).refl a.stream;
  symm = λ a b. (stream_laws.laws-law).symm a.stream b.stream;
  congr = λ a b c. (stream_laws.laws-law).congr a.stream b.stream c.stream;
}

-- where no two feeds have one stream, no two streams are equal
no_clash : (ws : List Wanted) → clash_of ws ≡ None → AreApart (map (λ w. w.stream) ws)
unfolding clash_of
no_clash ws e = streams_apart ws (distinct same_laws ws (map_none _ (repeat same ws) e))

proper_streams : (ws : List Wanted) → list_all (λ w. is_proper w.stream.shape) ws ≡ true → (n : ℕ) (s : Stream) → slice_get (map (λ w. w.stream) ws) n ≡ Some s → IsTrue (is_proper s.shape)
proper_streams [] h n s e = cc
proper_streams (w ∷ ws) h zero s e = let k : w.stream ≡ s = cc in subst (λ (t : Stream). IsTrue (is_proper t.shape)) k (first_holds _ _ h)
proper_streams (w ∷ ws) h (suc n) s e = proper_streams ws (second_holds _ _ h) n s e

-- a test that holds by its second part
by_second : (a b : Bool) → (not a || b) ≡ true → a ≡ true → b ≡ true
by_second true b h e = h
by_second false b h e = absurd (true≢false (sym e))

-- the feeds of one owner rise rightly
feeds_rise : (is : List Instrument) (ws : List Wanted) (limit : ℕ) (k : Kind) (owner n : ℕ) (rest : List Wanted) → StandsAt ws n rest → list_all (is_rightly_rising is) rest ≡ true → (owner_rises is owner ≡ true → only_rises k ≡ true) → AllRise (plan_from is ws limit) k (feeds_from owner n rest)
feeds_rise is ws limit k owner n [] s all own = tt
feeds_rise is ws limit k owner n (w ∷ rest) s all own =
    let tail = feeds_rise is ws limit k owner (n + 1) rest (later ws n w rest s) (second_holds _ _ all) own in
    elim (w.owner == owner) as (λ b. (w.owner == owner) ≡ b → AllRise (plan_from is ws limit) k (cond b (record { stream = n; keep = w.keep } ∷ feeds_from owner (n + 1) rest) (feeds_from owner (n + 1) rest))) [
      | true ↦ λ mine. (
        (λ stream at up.
            let is_here : Some w.stream ≡ Some stream = sym (slice_get-map (λ (x : Wanted). x.stream) ws n ∙ ap (option_map (λ (x : Wanted). x.stream)) (here ws n w rest s)) ∙ at in
            let same_stream : w.stream ≡ stream = cc in
            let up_here : rises w.stream.shape ≡ true = subst (λ (t : Stream). rises t.shape ≡ true) (sym same_stream) up in
            own (subst (λ (m : ℕ). owner_rises is m ≡ true) (eqb-true w.owner owner mine) (by_second (rises w.stream.shape) (owner_rises is w.owner) (first_holds _ _ all) up_here))),
        tail,
      )
      | false ↦ λ _. tail
    ] refl

-- the owner of an instrument takes no values below 0 only where the instrument takes none
owner_like : (is : List Instrument) (i : ℕ) (x : Instrument) → slice_get is i ≡ Some x → owner_rises is (owner_of is x) ≡ true → only_rises x.kind ≡ true
owner_like is i x at up =
    let first = first_passes (is_same x) is i x at (same_self x) in
    ap (λ (y : Instrument). only_rises y.kind) (exact_instruments x first.0 first.2) ∙ sym (ap (λ o. option_map_or (λ (y : Instrument). only_rises y.kind) o false) first.1) ∙ up

source_rises : (is : List Instrument) (ws : List Wanted) (limit i : ℕ) (k : Kind) (o : Option Instrument) → slice_get is i ≡ o → list_all (is_rightly_rising is) ws ≡ true → option_map (λ s. s.kind) (option_map (source_of is ws) o) ≡ Some k → AllRise (plan_from is ws limit) k (option_map_or (λ s. s.feeds) (option_map (source_of is ws) o) [])
source_rises is ws limit i k None at all e = cc
source_rises is ws limit i k (Some x) at all e =
    let kind : x.kind ≡ k = cc in
    feeds_rise is ws limit k (owner_of is x) 0 ws (whole ws) all (λ up. subst (λ (m : Kind). only_rises m ≡ true) kind (owner_like is i x at up))

plan_rises : (is : List Instrument) (ws : List Wanted) (limit : ℕ) → list_all (is_rightly_rising is) ws ≡ true → (i : ℕ) (k : Kind) → kind_of (plan_from is ws limit) i ≡ Some k → AllRise (plan_from is ws limit) k (feeds_of (plan_from is ws limit) i)
plan_rises is ws limit all i k e =
    let at = slice_get-map (source_of is ws) is i in
    subst (λ (o : Option Source). AllRise (plan_from is ws limit) k (option_map_or (λ s. s.feeds) o [])) (sym at)
    (source_rises is ws limit i k (slice_get is i) refl all (subst (λ (o : Option Source). option_map (λ s. s.kind) o ≡ Some k) at e))

pub is_plan : (is : List Instrument) (ws : List Wanted) (limit : ℕ) → clash_of ws ≡ None → AreSound is ws → 0 < limit → IsPlan (plan_from is ws limit)
is_plan is ws limit clash sound above = record {
  feeds = plan_feeds is ws limit;
  shared = plan_shared is ws limit;
  rising = plan_rises is ws limit sound.rising;
  apart = no_clash ws clash;
  proper = proper_streams ws sound.proper;
  limited = above;
}

-- what a plan keeps is seen as the plan
pub plan_from_parts_is : (is : List Instrument) (ws : List Wanted) (limit : ℕ) (places : List KeptInstrument) (lists : List (List Feed)) (ss : List Stream) → places ≡ map (kept_instrument is) is → ((o : ℕ) → slice_index_or lists o [] ≡ feeds_from o 0 ws) → ss ≡ map (λ w. w.stream) ws → plan_from_parts places lists ss limit ≡ plan_from is ws limit
plan_from_parts_is is ws limit places lists ss kept listed streams =
    (λ j. plan_from_parts (kept j) lists (streams j) limit)
    ∙ (λ j. record { instruments = sources is is j; streams = map (λ w. w.stream) ws; limit = limit })
  where
    sources : (all xs : List Instrument) → map (source_at lists) (map (kept_instrument all) xs) ≡ map (λ (i : Instrument). let s : Source = record { kind = i.kind; feeds = feeds_from (owner_of all i) 0 ws } in s) xs
    sources all [] = refl
    sources all (x ∷ xs) = λ j. record { kind = x.kind; feeds = listed (owner_of all x) j } ∷ sources all xs j

-- what a feed is that an option may hold
abbrev Gives : (Wanted → Bool) → Option Wanted → Type 0
Gives P None = Unit {0}
Gives P (Some w) = P w ≡ true

cons_all : (P : Wanted → Bool) (o : Option Wanted) (ws : List Wanted) → Gives P o → list_all P ws ≡ true → list_all P (cons_option o ws) ≡ true
cons_all P None ws g h = h
cons_all P (Some w) ws g h = ap (λ b. b && list_all P ws) g ∙ h

made_all : (P : Wanted → Bool) (Q : View → Bool) (h : View → Option Wanted) → ((v : View) → Q v ≡ true → Gives P (h v)) → (vs : List View) → list_all Q vs ≡ true → list_all P (filter_map h vs) ≡ true
made_all P Q h gives [] e = refl
made_all P Q h gives (v ∷ vs) e = cons_all P (h v) (filter_map h vs) (gives v (first_holds _ _ e)) (made_all P Q h gives vs (second_holds _ _ e))

filter_all : (Q p : View → Bool) (vs : List View) → list_all Q vs ≡ true → list_all Q (filter p vs) ≡ true
filter_all Q p [] e = refl
filter_all Q p (v ∷ vs) e = elim (p v) as (λ b. list_all Q (cond b (v ∷ filter p vs) (filter p vs)) ≡ true) [
  | true ↦ ap (λ b. b && list_all Q (filter p vs)) (first_holds _ _ e) ∙ filter_all Q p vs (second_holds _ _ e)
  | false ↦ filter_all Q p vs (second_holds _ _ e)
]

default_all : (Q : View → Bool) (vs : List View) → Q default_view ≡ true → list_all Q vs ≡ true → list_all Q (or_default vs) ≡ true
default_all Q [] d e = ap (λ b. b && true) d
default_all Q (v ∷ vs) d e = e

module _ (P : Wanted → Bool) (Q : View → Bool) (all : List Instrument) (gives : (n : ℕ) (i : Instrument) (v : View) → slice_get all n ≡ Some i → Q v ≡ true → Gives P (feed_by n i v)) (default : Q default_view ≡ true) (views : List View) (good : list_all Q views ≡ true) where
  own_all : (n : ℕ) (i : Instrument) → slice_get all n ≡ Some i → list_all P (own_feeds views all (n, i)) ≡ true
  own_all n i h = elim (owner_of all i == n) as (λ b. list_all P (cond b (wanted_by views n i) []) ≡ true) [
    | true ↦ made_all P Q (feed_by n i) (λ v q. gives n i v h q) (or_default (filter (λ v. view_fits v i) views)) (default_all Q (filter (λ v. view_fits v i) views) default (filter_all Q (λ v. view_fits v i) views good))
    | false ↦ refl
  ]

  feeds_all : (n : ℕ) (is : List Instrument) → StandsAt all n is → list_all P (flat_map (own_feeds views all) (enumerate_from n is)) ≡ true
  feeds_all n [] s = refl
  feeds_all n (i ∷ is) s =
      list_all-append P (own_feeds views all (n, i)) (flat_map (own_feeds views all) (enumerate_from (n + 1) is))
      ∙ (λ j. own_all n i (here all n i is s) j && feeds_all (n + 1) is (later all n i is s) j)

  wanted_all : list_all P (wanted_of views all) ≡ true
  unfolding wanted_of
  wanted_all = feeds_all 0 all (whole all)

gives_below : (count n : ℕ) (i : Instrument) (v : View) (f : Fit) → n < count → Gives (λ w. nat_lt w.owner count) (fed_by n i v f)
gives_below count n i v (fits.Stream shape) h = lt-ltb n count h
gives_below count n i v fits.Nothing h = tt
gives_below count n i v fits.Refused h = tt

all_true : (vs : List View) → list_all (λ v. true) vs ≡ true
all_true [] = refl
all_true (v ∷ vs) = all_true vs

-- the owners of feeds are places of instruments
owners_below : (views : List View) (is : List Instrument) → list_all (λ w. nat_lt w.owner (length is)) (wanted_of views is) ≡ true
owners_below views is = wanted_all (λ w. nat_lt w.owner (length is)) (λ v. true) is (λ n i v h q. gives_below (length is) n i v (fit i.kind v.aggregation) (slice_get_within is n i h)) refl views (all_true views)

default_are_bounds : are_bounds default_bounds ≡ true
unfolding are_bounds
default_are_bounds = refl

not_not : (b : Bool) → not b ≡ false → b ≡ true
not_not true e = refl
not_not false e = cc

-- the bounds of a histogram that a good view gives are bounds
gives_proper : (n : ℕ) (i : Instrument) (v : View) (k : Kind) (a : Aggregation) → has_bad_bounds a ≡ false → Gives (λ w. is_proper w.stream.shape) (fed_by n i v (fit k a))
gives_proper n i v kinds.Counter ways.Default e = refl
gives_proper n i v kinds.Counter ways.Sum e = refl
gives_proper n i v kinds.Counter ways.LastValue e = tt
gives_proper n i v kinds.Counter (ways.Buckets b) e = not_not (are_bounds b) e
gives_proper n i v kinds.Counter ways.Drop e = tt
gives_proper n i v kinds.UpDown ways.Default e = refl
gives_proper n i v kinds.UpDown ways.Sum e = refl
gives_proper n i v kinds.UpDown ways.LastValue e = tt
gives_proper n i v kinds.UpDown (ways.Buckets b) e = tt
gives_proper n i v kinds.UpDown ways.Drop e = tt
gives_proper n i v kinds.Gauge ways.Default e = refl
gives_proper n i v kinds.Gauge ways.Sum e = tt
gives_proper n i v kinds.Gauge ways.LastValue e = refl
gives_proper n i v kinds.Gauge (ways.Buckets b) e = tt
gives_proper n i v kinds.Gauge ways.Drop e = tt
gives_proper n i v kinds.Histogram ways.Default e = default_are_bounds
gives_proper n i v kinds.Histogram ways.Sum e = refl
gives_proper n i v kinds.Histogram ways.LastValue e = tt
gives_proper n i v kinds.Histogram (ways.Buckets b) e = not_not (are_bounds b) e
gives_proper n i v kinds.Histogram ways.Drop e = tt

not_true : (b : Bool) → not b ≡ true → b ≡ false
not_true false e = refl
not_true true e = cc

-- where all views have good bounds, so have all streams
shapes_proper : (views : List View) (is : List Instrument) → list_all (λ v. not (has_bad_bounds v.aggregation)) views ≡ true → list_all (λ w. is_proper w.stream.shape) (wanted_of views is) ≡ true
shapes_proper views is good = wanted_all (λ w. is_proper w.stream.shape) (λ v. not (has_bad_bounds v.aggregation)) is (λ n i v h q. gives_proper n i v i.kind v.aggregation (not_true (has_bad_bounds v.aggregation) q)) refl views good

-- the table gives streams whose totals only rise to kinds that take no values below 0
gives_by_kind : (n : ℕ) (i : Instrument) (v : View) (k : Kind) (a : Aggregation) → Gives (λ w. not (rises w.stream.shape) || only_rises k) (fed_by n i v (fit k a))
gives_by_kind n i v kinds.Counter ways.Default = refl
gives_by_kind n i v kinds.Counter ways.Sum = refl
gives_by_kind n i v kinds.Counter ways.LastValue = tt
gives_by_kind n i v kinds.Counter (ways.Buckets b) = refl
gives_by_kind n i v kinds.Counter ways.Drop = tt
gives_by_kind n i v kinds.UpDown ways.Default = refl
gives_by_kind n i v kinds.UpDown ways.Sum = refl
gives_by_kind n i v kinds.UpDown ways.LastValue = tt
gives_by_kind n i v kinds.UpDown (ways.Buckets b) = tt
gives_by_kind n i v kinds.UpDown ways.Drop = tt
gives_by_kind n i v kinds.Gauge ways.Default = refl
gives_by_kind n i v kinds.Gauge ways.Sum = tt
gives_by_kind n i v kinds.Gauge ways.LastValue = refl
gives_by_kind n i v kinds.Gauge (ways.Buckets b) = tt
gives_by_kind n i v kinds.Gauge ways.Drop = tt
gives_by_kind n i v kinds.Histogram ways.Default = refl
gives_by_kind n i v kinds.Histogram ways.Sum = refl
gives_by_kind n i v kinds.Histogram ways.LastValue = tt
gives_by_kind n i v kinds.Histogram (ways.Buckets b) = refl
gives_by_kind n i v kinds.Histogram ways.Drop = tt

gives_rising : (is : List Instrument) (n : ℕ) (i : Instrument) (v : View) (f : Fit) → slice_get is n ≡ Some i → Gives (λ w. not (rises w.stream.shape) || only_rises i.kind) (fed_by n i v f) → Gives (is_rightly_rising is) (fed_by n i v f)
gives_rising is n i v (fits.Stream shape) h g = ap (λ o. not (rises shape) || option_map_or (λ x. only_rises x.kind) o false) h ∙ g
gives_rising is n i v fits.Nothing h g = tt
gives_rising is n i v fits.Refused h g = tt

all_rightly_rising : (views : List View) (is : List Instrument) → list_all (is_rightly_rising is) (wanted_of views is) ≡ true
all_rightly_rising views is = wanted_all (is_rightly_rising is) (λ v. true) is (λ n i v h q. gives_rising is n i v (fit i.kind v.aggregation) h (gives_by_kind n i v i.kind v.aggregation)) refl views (all_true views)

-- the feeds of instruments by views with good bounds are sound
pub are_sound : (views : List View) (is : List Instrument) (ws : List Wanted) → ws ≡ wanted_of views is → list_all (λ v. not (has_bad_bounds v.aggregation)) views ≡ true → AreSound is ws
are_sound views is ws wanted good = record {
  below = subst (λ (l : List Wanted). list_all (λ w. nat_lt w.owner (length is)) l ≡ true) (sym wanted) (owners_below views is);
  proper = subst (λ (l : List Wanted). list_all (λ w. is_proper w.stream.shape) l ≡ true) (sym wanted) (shapes_proper views is good);
  rising = subst (λ (l : List Wanted). list_all (is_rightly_rising is) l ≡ true) (sym wanted) (all_rightly_rising views is);
}

-- what is made of one element more
pub map_more : {A B : Type 0} (f : A → B) (xs : List A) (i : ℕ) (x : A) (old new : List B) (y : B) → i < length xs → x ≡ get_or xs i x → old ≡ map f (take i xs) → new ≡ old ++ y ∷ [] → y ≡ f x → new ≡ map f (take (i + 1) xs)
map_more f xs i x old new y h at was pushed is =
    pushed ∙ (λ j. was j ++ is j ∷ []) ∙ sym (map-append f (take i xs) (x ∷ []))
    ∙ ap (map f) (ap (λ z. take i xs ++ z ∷ []) at ∙ sym (take_more xs i x h))

feeds_from_append : (o n : ℕ) (xs ys : List Wanted) → feeds_from o n (xs ++ ys) ≡ feeds_from o n xs ++ feeds_from o (n + length xs) ys
feeds_from_append o n [] ys = ap (λ (m : ℕ). feeds_from o m ys) (omega arith)
feeds_from_append o n (x ∷ xs) ys =
    let rest : feeds_from o (n + 1) (xs ++ ys) ≡ feeds_from o (n + 1) xs ++ feeds_from o (n + length (x ∷ xs)) ys = feeds_from_append o (n + 1) xs ys ∙ ap (λ (m : ℕ). feeds_from o (n + 1) xs ++ feeds_from o m ys) (omega arith) in
    elim (x.owner == o) as (λ b. cond b (record { stream = n; keep = x.keep } ∷ feeds_from o (n + 1) (xs ++ ys)) (feeds_from o (n + 1) (xs ++ ys)) ≡ cond b (record { stream = n; keep = x.keep } ∷ feeds_from o (n + 1) xs) (feeds_from o (n + 1) xs) ++ feeds_from o (n + length (x ∷ xs)) ys) [
      | true ↦ ap (λ l. record { stream = n; keep = x.keep } ∷ l) rest
      | false ↦ rest
    ]

one_list_more : (b : Bool) (l : List Feed) (f : Feed) → cond b (l ++ f ∷ []) l ≡ l ++ cond b (f ∷ []) []
one_list_more true l f = refl
one_list_more false l f = sym (append-nil l)

-- the lists after one feed more
pub lists_more : (o i : ℕ) (ws : List Wanted) (w : Wanted) (f : Feed) (old new : List Feed) → i < length ws → w ≡ get_or ws i w → old ≡ feeds_from o 0 (take i ws) → f ≡ record { stream = i; keep = w.keep } → new ≡ cond (w.owner == o) (old ++ f ∷ []) old → new ≡ feeds_from o 0 (take (i + 1) ws)
lists_more o i ws w f old new h at was is now =
    let len : length (take i ws) ≡ i = omega (arith, length-take {A = Wanted}) in
    now ∙ (λ j. cond (w.owner == o) (was j ++ is j ∷ []) (was j)) ∙ one_list_more (w.owner == o) (feeds_from o 0 (take i ws)) (record { stream = i; keep = w.keep })
    ∙ ap (λ (m : ℕ). feeds_from o 0 (take i ws) ++ feeds_from o m (w ∷ [])) (omega arith)
    ∙ sym (feeds_from_append o 0 (take i ws) (w ∷ []))
    ∙ ap (feeds_from o 0) (ap (λ z. take i ws ++ z ∷ []) at ∙ sym (take_more ws i w h))
