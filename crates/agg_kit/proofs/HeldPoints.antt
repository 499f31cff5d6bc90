-- Places that are known: what is true of them at one feed, and that they stay.
use Rattle.std.proofs.Common.{is_none, IfSome, Option, Result, Ok, Err, OnOk, OnErr, ◌⊎◌, ◌==◌, true≢false, ◌≡◌, ℕ, ℤ, ◌+◌, ◌<◌, ◌∙◌, inl, inr, Bool, true, false, List, [], ◌∷◌, ◌++◌, Some, length, get_or, slice_get, position, refl, sym, ap, subst, suc, zero, arith, if◌then◌else◌, is_some, None, cond, not, nat_lt, ltb-true, lt-ltb, length-append}
use Rattle.std.specs.Prelude.{◌≤◌, slice_set, vec_capacity}
use Rattle.std.specs.Cmp.{unsigned_Decides}
use Rattle.std.specs.List.{position_or_len}
use Rattle.std.specs.Map.{keys_of}
use Rattle.std.specs.Option.{option_map, option_map_or}
use Rattle.indexmap.proofs.MapLemmas.{Found-position}
use Rattle.attr_kit.specs.declared.attr_set.AttrSet.{AttrSet}
use Rattle.attr_kit.specs.Keeping.{kept}
use Rattle.point_kit.specs.declared.payload.Payload.{Payload}
use Rattle.point_kit.specs.declared.shape.Shape.{Shape}
use Rattle.plan_kit.specs.Plans.{Planned, Source, AreFeeds, feeds_of, kind_of}
use Rattle.plan_kit.specs.declared.feed.Feed.{Feed}
use Rattle.agg_kit.specs.Held.{held_of, place_of, AreOf, AreAt, AreKnown, ArePlaced, HasRoom, HaveRoom, IsFed, IsHeldAt, IsOwnPlace, IsPlaceless, MayGive}
use Rattle.agg_kit.specs.Entries.{Entry, Arrivals, arrivals_from, entry_of}
use Rattle.agg_kit.specs.Feeding.{set_eq, has_set, add_once}
use Rattle.agg_kit.specs.Feeds.{entries_of, series_at, shape_at, first_out, is_copied, AllHeld, IsHeld}
use Rattle.agg_kit.specs.FreshPoints.{payload_with, add_at}
use Rattle.agg_kit.specs.Held.{whole_feed}
use Rattle.agg_kit.specs.Measuring.{emptied_tally, points_after, series_after, after_measure, after_held, fault_of, early_fault_of, held_entry, held_fault_of, early_held_fault_of, IsMeasured}
use Rattle.agg_kit.specs.Laws.{PlacesStay, PlacesStayHeld}
use Rattle.agg_kit.specs.Payloads.{is_out_of_range}
use Rattle.agg_kit.specs.Steps.{Stored, has_point, fed_set, payload_after, step}
use Rattle.agg_kit.specs.Tallies.{Points, Tallied}
use Rattle.agg_kit.specs.declared.held.HeldPoint.{HeldPoint}
use Rattle.agg_kit.specs.declared.held.OwnPlace.{OwnPlace}
use Rattle.agg_kit.specs.declared.held.Places.{Places}
use Rattle.agg_kit.specs.declared.fault.TallyFault.{TallyFault}
use Rattle.agg_kit.specs.declared.fault.TallyFault.TheVariants as faults
use Rattle.agg_kit.proofs.Distinct.{same}
use Rattle.agg_kit.proofs.Inserts.{put, place-now, place-stays}
use Rattle.agg_kit.proofs.Records.{if_some, get-push, set-here, set-other, entries-read, first-here, first-kept, leaves-here, new-gone, read, read-there}
use Rattle.agg_kit.proofs.Rounds.{at-after}
use Rattle.agg_kit.proofs.Sound.{keys-insert}
use Rattle.agg_kit.proofs.Steps.{absent, valued, within-has_point, add_under-has_point, range-there}

-- what is known is there where something is known
pub known-at : (p : Planned) (fs : List Feed) (is : List ℕ) (a : AttrSet) (ss : List Points) → AreKnown p fs is a ss → 0 < length is → AreAt p fs is a ss
known-at p fs is a ss (inl n) l = let z : length is ≡ 0 = ap length n in absurd (omega arith)
known-at p fs is a ss (inr k) l = k

pub known-lone : (p : Planned) (m : ℕ) (is : List ℕ) (a : AttrSet) (ss : List Stored) (s : Stored) (limit : ℕ) → limit ≡ p.limit → m < length ss → s ≡ get_or ss m s
    → AreKnown p (whole_feed m ∷ []) is a (entries_of ss) → MayGive is (place_of limit s.entries a)
known-lone p m [] a ss s limit e l was k = tt
known-lone p m (i ∷ is) a ss s limit e l was k =
    let there = known-at p (whole_feed m ∷ []) (i ∷ is) a (entries_of ss) k (omega arith) in
    ap (λ n. place_of n s.entries a) e ∙ sym (ap (λ (es : Points). place_of p.limit es a) (entries-read ss m s l was)) ∙ there.0

pub at-some : (p : Planned) (f : Feed) (fs : List Feed) (is : List ℕ) (a : AttrSet) (ss : List Points) → AreAt p (f ∷ fs) is a ss → 0 < length is
at-some p f fs [] a ss h = absurd h
at-some p f fs (i ∷ is) a ss h = omega arith

-- the first feed of all, whose stream is read as `old`, and the first of the places
module _ (p : Planned) (a : AttrSet) (v : ℤ) (ss : List Stored) (feed : Feed) (rest all : List Feed) (is : all ≡ feed ∷ rest) (feeds : AreFeeds (length ss) all)
    (old : Stored) (was : old ≡ get_or ss feed.stream old) (i : ℕ) (later places : List ℕ) (begins : places ≡ i ∷ later) (at : AreAt p all places a (entries_of ss)) where
  pub fit : AreFeeds (length ss) (feed ∷ rest)
  fit = subst (AreFeeds (length ss)) is feeds

  stand : AreAt p (feed ∷ rest) (i ∷ later) a (entries_of ss)
  stand = subst (λ (fs : List Feed). AreAt p fs (i ∷ later) a (entries_of ss)) is (subst (λ (js : List ℕ). AreAt p all js a (entries_of ss)) begins at)

  pub later-at : AreAt p rest later a (entries_of ss)
  later-at = stand.1

  abbrev set : AttrSet
  set = fed_set p.limit old.entries (kept feed.keep a)

  here : position (set_eq set) (keys_of old.entries) ≡ Some i
  here = sym (ap (λ (es : Points). place_of p.limit es (kept feed.keep a)) (entries-read ss feed.stream old fit.0 was)) ∙ stand.0

  pub here-within : i < length old.entries
  here-within = within-has_point old.entries set i here

  pub here-added : add_at (shape_at p feed.stream) old.entries i v ≡ step (shape_at p feed.stream) p.limit old.entries (kept feed.keep a) v
  here-added = add_under-has_point (shape_at p feed.stream) old.entries set v i here

  pub here-out : is_out_of_range (payload_with (shape_at p feed.stream) old.entries i v) ≡ true → first_out p a v (entries_of ss) all ≡ Some (faults.Overflow feed.stream)
  here-out out =
      ap (first_out p a v (entries_of ss)) is
      ∙ first-here p a v (entries_of ss) feed rest (leaves-here p feed a v ss old fit.0 was ∙ range-there (shape_at p feed.stream) old.entries set v i true here out)

  pub here-first : is_out_of_range (payload_with (shape_at p feed.stream) old.entries i v) ≡ false → first_out p a v (entries_of ss) all ≡ first_out p a v (entries_of ss) rest
  here-first fine = first-kept p a v ss old feed rest all is fit.0 was (range-there (shape_at p feed.stream) old.entries set v i false here fine)

-- a stream that other feeds left alone, read once more
pub still-there : (ss ns : List Stored) (m : ℕ) (old now : Stored) → m < length ss → old ≡ get_or ss m old → slice_get ns m ≡ slice_get ss m → now ≡ get_or ns m now → now ≡ old
still-there ss ns m old now l was others reads = read ns m old now (others ∙ read-there ss m old l was) reads

-- ---- places that are found, feed by feed

pub at-push : (p : Planned) (fs : List Feed) (is : List ℕ) (f : Feed) (i : ℕ) (a : AttrSet) (ss : List Points) → AreAt p fs is a ss → place_of p.limit (series_at ss f.stream) (kept f.keep a) ≡ Some i
    → AreAt p (fs ++ f ∷ []) (is ++ i ∷ []) a ss
at-push p [] [] f i a ss h k = (k, tt)
at-push p [] (j ∷ is) f i a ss h k = absurd h
at-push p (g ∷ fs) [] f i a ss h k = absurd h
at-push p (g ∷ fs) (j ∷ is) f i a ss h k = (h.0, at-push p fs is f i a ss h.1 k)

pub stream-below : (n : ℕ) (fs : List Feed) (i : ℕ) (f : Feed) → AreFeeds n fs → i < length fs → f ≡ get_or fs i f → f.stream < n
stream-below n [] i f fit l is = absurd (omega arith)
stream-below n (g ∷ fs) zero f fit l is = subst (λ (x : Feed). x.stream < n) (sym is) fit.0
stream-below n (g ∷ fs) (suc i) f fit l is = stream-below n fs i f fit.2 (omega arith) is

-- of points that are all there
pub held-feed : (p : Planned) (fs : List Feed) (a : AttrSet) (ss : List Points) (i : ℕ) (f : Feed) → AllHeld p fs a ss → i < length fs → f ≡ get_or fs i f
    → (is_copied f.keep a ≡ false) × (has_point (series_at ss f.stream) (fed_set p.limit (series_at ss f.stream) (kept f.keep a)) ≡ true)
held-feed p [] a ss i f all l is = absurd (omega arith)
held-feed p (g ∷ fs) a ss zero f all l is = subst (λ (x : Feed). (is_copied x.keep a ≡ false) × (has_point (series_at ss x.stream) (fed_set p.limit (series_at ss x.stream) (kept x.keep a)) ≡ true)) (sym is) (all.0, all.1)
held-feed p (g ∷ fs) a ss (suc i) f all l is = held-feed p fs a ss i f all.2 (omega arith) is

pub place-there : (limit : ℕ) (es : Points) (a : AttrSet) → has_point es (fed_set limit es a) ≡ true → place_of limit es a ≡ None → ⊥
place-there limit es a there none = new-gone es (fed_set limit es a) (absent es (fed_set limit es a) none) there

-- ---- they stay

-- a place that is found is found with one more set behind it
len-append : (q : AttrSet → Bool) (xs ys : List AttrSet) → position_or_len q xs < length xs → position_or_len q (xs ++ ys) ≡ position_or_len q xs
len-append q [] ys l = absurd (omega arith)
len-append q (x ∷ xs) ys l = by (len-append q xs ys) (q x) l
  where
    by : (position_or_len q xs < length xs → position_or_len q (xs ++ ys) ≡ position_or_len q xs) → (b : Bool) → cond (not b) (1 + position_or_len q xs) 0 < suc (length xs)
        → cond (not b) (1 + position_or_len q (xs ++ ys)) 0 ≡ cond (not b) (1 + position_or_len q xs) 0
    by go true l = refl
    by go false l = ap (λ n. 1 + n) (go (omega arith))

position-push : (q : AttrSet → Bool) (xs : List AttrSet) (x : AttrSet) (i : ℕ) → position q xs ≡ Some i → position q (xs ++ x ∷ []) ≡ Some i
position-push q xs x i h = by (nat_lt n (length xs)) refl h
  where
    n : ℕ
    n = position_or_len q xs

    ys : List AttrSet
    ys = xs ++ x ∷ []

    by : (b : Bool) → nat_lt n (length xs) ≡ b → cond b (Some n) None ≡ Some i → position q ys ≡ Some i
    by false e k = absurd (cc)
    by true e k =
        let l : n < length xs = ltb-true n (length xs) e in
        let m : n < length ys = omega (arith, l, length-append xs (x ∷ [])) in
        ap (λ j. cond (nat_lt j (length ys)) (Some j) None) (len-append q xs (x ∷ []) l) ∙ ap (λ b. cond b (Some n) None) (lt-ltb n (length ys) m) ∙ k

pub position-once : (q : AttrSet → Bool) (xs : List AttrSet) (x : AttrSet) (i : ℕ) → position q xs ≡ Some i → position q (add_once xs x) ≡ Some i
position-once q xs x i h = by (has_set xs x)
  where
    by : (b : Bool) → position q (if b then xs else xs ++ x ∷ []) ≡ Some i
    by true = h
    by false = position-push q xs x i h

pub held-at : (es : Points) (b : AttrSet) (i : ℕ) → position (set_eq b) (keys_of es) ≡ Some i → has_point es b ≡ true
held-at es b i h = ap is_some ((Found-position (set_eq b) es i h).value ∙ (valued es i (within-has_point es b i h)).1)

pub place-kept : (limit : ℕ) (es : Points) (b a : AttrSet) (w : Payload) → has_point es (fed_set limit es b) ≡ true → fed_set limit (put es (fed_set limit es a) w) b ≡ fed_set limit es b
place-kept limit es b a w there = by (set_eq b a) refl
  where
    by : (t : Bool) → set_eq b a ≡ t → fed_set limit (put es (fed_set limit es a) w) b ≡ fed_set limit es b
    by true e = ap (λ (c : AttrSet). fed_set limit (put es (fed_set limit es c) w) b) (sym (same b a e)) ∙ place-now limit es b w
    by false e = place-stays limit es b a w e there

pub step-stays : (shape : Shape) (limit : ℕ) (es : Points) (a b : AttrSet) (v : ℤ) (i : ℕ) → place_of limit es b ≡ Some i → place_of limit (step shape limit es a v) b ≡ Some i
step-stays shape limit es a b v i h =
    let c = fed_set limit es b in
    let w = payload_after shape es (fed_set limit es a) v in
    ap (λ (x : AttrSet). position (set_eq x) (keys_of (put es (fed_set limit es a) w))) (place-kept limit es b a w (held-at es c i h))
    ∙ ap (position (set_eq c)) (keys-insert es (fed_set limit es a) w)
    ∙ position-once (set_eq c) (keys_of es) (fed_set limit es a) i h

all-stay : (shape : Shape) (limit : ℕ) (es : Points) (xs : Arrivals) (b : AttrSet) (i : ℕ) → place_of limit es b ≡ Some i → place_of limit (points_after shape limit es xs) b ≡ Some i
all-stay shape limit es [] b i h = h
all-stay shape limit es (x ∷ xs) b i h = all-stay shape limit (step shape limit es x.0 x.1) xs b i (step-stays shape limit es x.0 b x.1 i h)

at-stays : (t : Tallied) (e : Entry) (fs : List Feed) (is : List ℕ) (a : AttrSet) → AreFeeds (length t.plan.streams) fs → AreAt t.plan fs is a t.series → AreAt t.plan fs is a (series_after t e)
at-stays t e [] [] a fits h = tt
at-stays t e [] (i ∷ is) a fits h = h
at-stays t e (f ∷ fs) [] a fits h = h
at-stays t e (f ∷ fs) (i ∷ is) a fits h = (
  ap (λ (es : Points). place_of t.plan.limit es (kept f.keep a)) (at-after t e f.stream fits.0)
      ∙ all-stay (shape_at t.plan f.stream) t.plan.limit (series_at t.series f.stream) (arrivals_from f.stream (feeds_of t.plan e.instrument) e.attrs e.value) (kept f.keep a) i h.0,
  at-stays t e fs is a fits.2 h.1,
)

pub known-stays : (t : Tallied) (e : Entry) (fs : List Feed) (is : List ℕ) (a : AttrSet) → AreFeeds (length t.plan.streams) fs → AreKnown t.plan fs is a t.series → AreKnown t.plan fs is a (series_after t e)
known-stays t e fs is a fits (inl n) = inl n
known-stays t e fs is a fits (inr k) = inr (at-stays t e fs is a fits k)

own-after : (t : Tallied) (e : Entry) (i : ℕ) (a : AttrSet) (o : OwnPlace) → AreFeeds (length t.plan.streams) (feeds_of t.plan i) → IsOwnPlace t.plan t.series i a o → IsOwnPlace t.plan (series_after t e) i a o
own-after t e i a o fits k =
    let one = at-stays t e (whole_feed o.stream ∷ []) (o.place ∷ []) a (subst (AreFeeds (length t.plan.streams)) k.lone fits) (k.at, tt) in
    record { lone = k.lone; at = one.0; rises = k.rises }

-- what is known of places stays true, whatever is recorded
pub places_stay_by_set : PlacesStay
places_stay_by_set t e i a k (inl none) = inl none
places_stay_by_set t e i a k (inr at) = inr (record {
  fed = at.fed;
  known = known-stays t e (feeds_of t.plan i) k.each.items a at.fed.feeds at.known;
  own = if_some (IsOwnPlace t.plan t.series i a) (IsOwnPlace t.plan (series_after t e) i a) k.own (λ o. own-after t e i a o at.fed.feeds) at.own;
})

pub places_stay_held : PlacesStayHeld
places_stay_held t n v i a k at = by (held_entry t n v)
  where
    by : (o : Option Entry) → AreOf (option_map_or (after_measure t) o t) i a k
    by None = at
    by (Some e) = places_stay_by_set t e i a k at

pub of-measured : {U : Type 0} (t s : Tallied) (e : Entry) (told : Result U TallyFault) → IsMeasured t s e told → (i : ℕ) (a : AttrSet) (k : Places) → AreOf t i a k → AreOf s i a k
of-measured t s e (Ok x) m i a k at = subst (λ (u : Tallied). AreOf u i a k) (sym m.value) (places_stay_by_set t e i a k at)
of-measured t s e (Err f) m i a k at = subst (λ (u : Tallied). AreOf u i a k) (sym m.unchanged) at

pub placed-measured : {U : Type 0} (t s : Tallied) (e : Entry) (told : Result U TallyFault) (hs : List HeldPoint) → IsMeasured t s e told → ArePlaced t hs → ArePlaced s hs
placed-measured t s e told hs m all = λ n h at. of-measured t s e told m h.instrument h.attrs h.places (all n h at)

-- the short way that is known, and the places of each feed
pub own-known : (t : Tallied) (i : ℕ) (a : AttrSet) (k : Places) (o : OwnPlace) → k.own ≡ Some o → AreOf t i a k → IsFed t.plan i × IsOwnPlace t.plan t.series i a o
own-known t i a k o is (inl none) = let no : None ≡ Some o = sym none.1 ∙ is in absurd (cc)
own-known t i a k o is (inr at) = (at.fed, subst (λ (x : Option OwnPlace). IfSome x (λ (y : OwnPlace). IsOwnPlace t.plan t.series i a y)) is at.own)

-- an instrument with feeds is there
pub lone-there : (p : Planned) (i m : ℕ) → feeds_of p i ≡ whole_feed m ∷ [] → is_none (kind_of p i) ≡ false
lone-there p i m is = by (slice_get p.instruments i) is
  where
    by : (o : Option Source) → option_map_or (λ s. s.feeds) o [] ≡ whole_feed m ∷ [] → is_none (option_map (λ s. s.kind) o) ≡ false
    by None e = let none : (let fs : List Feed = [] in fs) ≡ whole_feed m ∷ [] = e in absurd (cc)
    by (Some s) e = refl

pub each-known : (t : Tallied) (i : ℕ) (a : AttrSet) (k : Places) → AreOf t i a k → AreKnown t.plan (feeds_of t.plan i) k.each.items a t.series
each-known t i a k (inl none) = inl none.0
each-known t i a k (inr at) = at.known

pub own-kept : (t : Tallied) (i : ℕ) (a : AttrSet) (k : Places) → AreOf t i a k → IfSome k.own (IsOwnPlace t.plan t.series i a)
own-kept t i a k (inl none) = subst (λ (o : Option OwnPlace). IfSome o (IsOwnPlace t.plan t.series i a)) (sym none.1) tt
own-kept t i a k (inr at) = at.own

-- ---- room for places

-- one more that has room, and another in the place of one
pub room-push : (p : Planned) (hs ks : List HeldPoint) (h : HeldPoint) → ks ≡ hs ++ h ∷ [] → HaveRoom p hs → HasRoom (feeds_of p h.instrument) h.places → HaveRoom p ks
room-push p hs ks h is all one = λ n k at. by n k (get-push hs h k n (sym (ap (λ (l : List HeldPoint). slice_get l n) is) ∙ at))
  where
    by : (n : ℕ) (k : HeldPoint) → (slice_get hs n ≡ Some k) ⊎ ((n ≡ length hs) × (h ≡ k)) → HasRoom (feeds_of p k.instrument) k.places
    by n k (inl g) = all n k g
    by n k (inr g) = subst (λ (x : HeldPoint). HasRoom (feeds_of p x.instrument) x.places) g.1 one

pub room-set : (p : Planned) (hs : List HeldPoint) (n : ℕ) (h : HeldPoint) → n < length hs → HaveRoom p hs → HasRoom (feeds_of p h.instrument) h.places → HaveRoom p (slice_set hs n h)
room-set p hs n h l all one = λ m k at. by m k at (n == m) refl
  where
    by : (m : ℕ) (k : HeldPoint) → slice_get (slice_set hs n h) m ≡ Some k → (b : Bool) → (n == m) ≡ b → HasRoom (feeds_of p k.instrument) k.places
    by m k at true e =
        let same : n ≡ m = (unsigned_Decides n m).0 e in
        let is : Some h ≡ Some k = sym (set-here hs n h l) ∙ ap (slice_get (slice_set hs n h)) same ∙ at in
        let h≡k : h ≡ k = cc in
        subst (λ (x : HeldPoint). HasRoom (feeds_of p x.instrument) x.places) h≡k one
    by m k at false e = all m k (sym (set-other hs n m h (λ q. true≢false (sym ((unsigned_Decides n m).1 (sym q)) ∙ e))) ∙ at)

-- where there was room there is, where the room did not shrink
pub room-kept : (fs : List Feed) (k q : Places) → vec_capacity k.each ≤ vec_capacity q.each → HasRoom fs k → HasRoom fs q
room-kept fs k q l (inl lone) = inl lone
room-kept fs k q l (inr room) = inr (omega (arith, l, room))

pub plan-kept : {U : Type 0} (t s : Tallied) (e : Entry) (told : Result U TallyFault) → IsMeasured t s e told → s.plan ≡ t.plan
plan-kept t s e (Ok x) m = ap (λ (u : Tallied). u.plan) m.value
plan-kept t s e (Err f) m = ap (λ (u : Tallied). u.plan) m.unchanged

pub plan-restarted : {U F : Type 0} (t s : Tallied) (told : Result U F) → OnOk told (s ≡ emptied_tally t) → OnErr told (s ≡ t) → s.plan ≡ t.plan
plan-restarted t s (Ok x) value unchanged = ap (λ (u : Tallied). u.plan) value
plan-restarted t s (Err f) value unchanged = ap (λ (u : Tallied). u.plan) unchanged

-- what a tally keeps true of what it holds, after a recording
pub kept-measured : {U : Type 0} (t s : Tallied) (e : Entry) (told : Result U TallyFault) (hs : List HeldPoint) → IsMeasured t s e told → ArePlaced t hs × HaveRoom t.plan hs → ArePlaced s hs × HaveRoom s.plan hs
kept-measured t s e told hs m k = (placed-measured t s e told hs m k.0, subst (λ (p : Planned). HaveRoom p hs) (sym (plan-kept t s e told m)) k.1)

-- one more that is held
pub placed-push : (t : Tallied) (hs ks : List HeldPoint) (h : HeldPoint) → ks ≡ hs ++ h ∷ [] → ArePlaced t hs → IsPlaceless h.places → ArePlaced t ks
placed-push t hs ks h is all none = λ n k at. by n k (get-push hs h k n (sym (ap (λ (l : List HeldPoint). slice_get l n) is) ∙ at))
  where
    by : (n : ℕ) (k : HeldPoint) → (slice_get hs n ≡ Some k) ⊎ ((n ≡ length hs) × (h ≡ k)) → AreOf t k.instrument k.attrs k.places
    by n k (inl g) = all n k g
    by n k (inr g) = inl (subst (λ (x : HeldPoint). IsPlaceless x.places) g.1 none)

-- none is held
pub room-none : (p : Planned) (hs : List HeldPoint) → hs ≡ [] → HaveRoom p hs
room-none p hs is = λ n h at. by n h (sym (ap (λ (l : List HeldPoint). slice_get l n) is) ∙ at)
  where
    by : (n : ℕ) (h : HeldPoint) → (let l : List HeldPoint = [] in slice_get l n) ≡ Some h → HasRoom (feeds_of p h.instrument) h.places
    by n h e = absurd (cc)

pub placed-none : (t : Tallied) (hs : List HeldPoint) → hs ≡ [] → ArePlaced t hs
placed-none t hs is = λ n h at. by n h (sym (ap (λ (l : List HeldPoint). slice_get l n) is) ∙ at)
  where
    by : (n : ℕ) (h : HeldPoint) → (let l : List HeldPoint = [] in slice_get l n) ≡ Some h → AreOf t h.instrument h.attrs h.places
    by n h e = absurd (cc)

-- another in the place of one
pub placed-set : (t : Tallied) (hs : List HeldPoint) (n : ℕ) (h : HeldPoint) → n < length hs → ArePlaced t hs → AreOf t h.instrument h.attrs h.places → ArePlaced t (slice_set hs n h)
placed-set t hs n h l all one = λ m k at. by m k at (n == m) refl
  where
    by : (m : ℕ) (k : HeldPoint) → slice_get (slice_set hs n h) m ≡ Some k → (b : Bool) → (n == m) ≡ b → AreOf t k.instrument k.attrs k.places
    by m k at true e =
        let same : n ≡ m = (unsigned_Decides n m).0 e in
        let is : Some h ≡ Some k = sym (set-here hs n h l) ∙ ap (slice_get (slice_set hs n h)) same ∙ at in
        let h≡k : h ≡ k = cc in
        subst (λ (x : HeldPoint). AreOf t x.instrument x.attrs x.places) h≡k one
    by m k at false e = all m k (sym (set-other hs n m h (λ q. true≢false (sym ((unsigned_Decides n m).1 (sym q)) ∙ e))) ∙ at)

-- it shows the same set and instrument
pub held-set : (hs : List HeldPoint) (n : ℕ) (h k : HeldPoint) → slice_get hs n ≡ Some k → h.instrument ≡ k.instrument → h.attrs ≡ k.attrs → held_of (slice_set hs n h) ≡ held_of hs
held-set [] n h k at i a = refl
held-set (x ∷ hs) zero h k at i a =
    let same : x ≡ k = cc in
    λ j. (i' same j, a' same j) ∷ held_of hs
  where
    i' : x ≡ k → h.instrument ≡ x.instrument
    i' same = i ∙ ap (λ (y : HeldPoint). y.instrument) (sym same)

    a' : x ≡ k → h.attrs ≡ x.attrs
    a' same = a ∙ ap (λ (y : HeldPoint). y.attrs) (sym same)
held-set (x ∷ hs) (suc n) h k at i a = ap (λ l. (x.instrument, x.attrs) ∷ l) (held-set hs n h k at i a)

-- ---- a recording at a held point is one at its instrument with its set

pub shown-at : (hs : List HeldPoint) (n : ℕ) (h : HeldPoint) → slice_get hs n ≡ Some h → slice_get (held_of hs) n ≡ Some (h.instrument, h.attrs)
shown-at [] n h at = absurd (cc)
shown-at (x ∷ hs) zero h at = let same : x ≡ h = cc in ap (λ (y : HeldPoint). Some (y.instrument, y.attrs)) same
shown-at (x ∷ hs) (suc n) h at = shown-at hs n h at

pub held-read : (hs ks : List HeldPoint) (n : ℕ) (h : HeldPoint) → ks ≡ hs → n < length ks → h ≡ get_or ks n h → slice_get hs n ≡ Some h
held-read hs ks n h is l at = ap (λ (l : List HeldPoint). slice_get l n) (sym is) ∙ read-there ks n h l at

module _ (t s : Tallied) (same : t ≡ s) (n : ℕ) (v : ℤ) (k : ℕ × AttrSet) (at : slice_get t.held n ≡ Some k) where
  entry : held_entry t n v ≡ Some (entry_of k.0 k.1 v)
  entry = ap (option_map (λ (h : ℕ × AttrSet). entry_of h.0 h.1 v)) at

  pub held-fault : held_fault_of s n v ≡ fault_of t (entry_of k.0 k.1 v)
  held-fault = ap (λ (x : Tallied). held_fault_of x n v) (sym same) ∙ ap (λ (o : Option Entry). option_map_or (fault_of t) o (Some faults.NoHeld)) entry

  pub held-early : early_held_fault_of s n v ≡ early_fault_of t (entry_of k.0 k.1 v)
  held-early = ap (λ (x : Tallied). early_held_fault_of x n v) (sym same) ∙ ap (λ (o : Option Entry). option_map_or (early_fault_of t) o (Some faults.NoHeld)) entry

  pub held-after : after_held s n v ≡ after_measure t (entry_of k.0 k.1 v)
  held-after = ap (λ (x : Tallied). after_held x n v) (sym same) ∙ ap (λ (o : Option Entry). option_map_or (after_measure t) o t) entry

  pub held-here : IsHeldAt s n → IsHeld t (entry_of k.0 k.1 v)
  held-here all =
      subst (λ (o : Option (ℕ × AttrSet)). IfSome o (λ h. AllHeld t.plan (feeds_of t.plan h.0) h.1 t.series)) at
      (subst (λ (x : Tallied). IsHeldAt x n) (sym same) all)

pub ok_so : {T E : Type 0} (P : Type 0) (r : Result T E) → P → OnOk r P
ok_so P (Ok x) p = p
ok_so P (Err e) p = tt

-- one more of those that know no places
pub none-set : (hs : List HeldPoint) (i : ℕ) (h : HeldPoint) → i < length hs → IsPlaceless h.places
    → ((n : ℕ) (k : HeldPoint) → n < i → slice_get hs n ≡ Some k → IsPlaceless k.places)
    → (n : ℕ) (k : HeldPoint) → n < i + 1 → slice_get (slice_set hs i h) n ≡ Some k → IsPlaceless k.places
none-set hs i h l one all n k m at = by (i == n) refl
  where
    by : (b : Bool) → (i == n) ≡ b → IsPlaceless k.places
    by true e =
        let same : i ≡ n = (unsigned_Decides i n).0 e in
        let is : Some h ≡ Some k = sym (set-here hs i h l) ∙ ap (slice_get (slice_set hs i h)) same ∙ at in
        let h≡k : h ≡ k = cc in
        subst (λ (x : HeldPoint). IsPlaceless x.places) h≡k one
    by false e =
        let apart : n ≡ i → ⊥ = λ q. true≢false (sym ((unsigned_Decides i n).1 (sym q)) ∙ e) in
        let below : n < i = omega (arith, m, apart) in
        all n k below (sym (set-other hs i n h apart) ∙ at)
