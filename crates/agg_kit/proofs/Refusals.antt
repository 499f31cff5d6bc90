-- Why a recording is refused, by the points of a tally that stands for the recordings before it.
use Rattle.std.proofs.Common.{◌≡◌, ◌≢◌, ℕ, ℤ, ◌<◌, ◌==◌, Bool, true, false, cond, List, [], ◌∷◌, ◌++◌, Option, None, Some, length, slice_get, refl, sym, ap, subst, ◌∙◌, map, filter, find, is_none, if◌then◌else◌}
use Rattle.std.specs.Cmp.{unsigned_Decides}
use Rattle.std.specs.Option.{option_map, option_map_or, option_or}
use Rattle.attr_kit.specs.declared.attr_set.AttrSet.{AttrSet}
use Rattle.attr_kit.specs.Keeping.{kept}
use Rattle.attr_kit.specs.Refusing.{first, when}
use Rattle.point_kit.specs.declared.shape.Shape.{Shape}
use Rattle.point_kit.specs.declared.stream.Stream.{Stream}
use Rattle.plan_kit.specs.Plans.{Planned, Source, feeds_of, kind_of, stream_of, lacks, AreFeeds}
use Rattle.plan_kit.specs.declared.feed.Feed.{Feed}
use Rattle.agg_kit.specs.Entries.{Entry, Arrivals, arrivals_from, arrivals}
use Rattle.agg_kit.specs.Feeding.{set_eq, overflow_set, is_own, has_set, own_sets, goes_to, placements, fed}
use Rattle.agg_kit.specs.Feeds.{series_at, leaves_range, first_out, is_copied, early_feeds, NoneCopies}
use Rattle.agg_kit.specs.Measuring.{points_after, series_after, after_measure, counted_under, is_over, fault_into, fault_of, early_fault_of}
use Rattle.agg_kit.specs.Payloads.{payload_of, is_out_of_range}
use Rattle.agg_kit.specs.Refusals.{is_negative_for, overflows, first_refusal}
use Rattle.agg_kit.specs.Rounds.{values_of, round, StandsFor}
use Rattle.agg_kit.specs.Steps.{has_point, fed_set, payload_at, payload_after, step}
use Rattle.agg_kit.specs.Tallies.{Points, Tallied}
use Rattle.agg_kit.specs.declared.fault.TallyFault.{TallyFault}
use Rattle.agg_kit.specs.declared.fault.TallyFault.TheVariants as faults
use Rattle.agg_kit.proofs.Distinct.{same}
use Rattle.agg_kit.proofs.Limits.{not-false}
use Rattle.agg_kit.proofs.Points.{payload-is}
use Rattle.agg_kit.proofs.SeriesLaws.{series_of, has_point-own}
use Rattle.agg_kit.proofs.Rounds.{got, there, within, round-at, shape-is, arrivals_from-none, at-after, stands-push}
use Rattle.agg_kit.proofs.Steps.{payload-put, counted-step}

-- what holds of each feed of a list
abbrev pub Every : {X : Type 0} → (X → Type 0) → List X → Type 0
Every P [] = Unit {0}
Every P (x ∷ xs) = P x × Every P xs

pub every-map : {X : Type 0} (P Q : X → Type 0) (xs : List X) → ((x : X) → P x → Q x) → Every P xs → Every Q xs
every-map P Q [] f h = tt
every-map P Q (x ∷ xs) f h = (f x h.0, every-map P Q xs f h.1)

pub every-both : {X : Type 0} (P Q : X → Type 0) (xs : List X) → Every P xs → Every Q xs → Every (λ x. P x × Q x) xs
every-both P Q [] h k = tt
every-both P Q (x ∷ xs) h k = ((h.0, k.0), every-both P Q xs h.1 k.1)

find-same : {X : Type 0} (p q : X → Bool) (xs : List X) → Every (λ x. p x ≡ q x) xs → find p xs ≡ find q xs
find-same p q [] h = refl
find-same p q (x ∷ xs) h = λ i. cond (h.0 i) (Some x) (find-same p q xs h.1 i)

-- a feed brings one value to its stream
abbrev BringsOne : List Feed → AttrSet → ℤ → Feed → Type 0
BringsOne fs a v f = arrivals_from f.stream fs a v ≡ (kept f.keep a, v) ∷ []

apart : (m n : ℕ) → (m ≢ n) → (m == n) ≡ false
apart m n h = by (m == n) refl
  where
    by : (b : Bool) → (m == n) ≡ b → b ≡ false
    by true e = absurd (h ((unsigned_Decides m n).0 e))
    by false e = refl

others-bring : (f : Feed) (fs gs : List Feed) (a : AttrSet) (v : ℤ) → lacks f.stream gs → Every (BringsOne fs a v) gs → Every (BringsOne (f ∷ fs) a v) gs
others-bring f fs [] a v l h = tt
others-bring f fs (g ∷ gs) a v l h = (
  ap (λ b. map (λ (f : Feed). let p : AttrSet × ℤ = (kept f.keep a, v) in p) (cond b (f ∷ filter (λ f. f.stream == g.stream) fs) (filter (λ f. f.stream == g.stream) fs))) (apart f.stream g.stream l.0) ∙ h.0,
  others-bring f fs gs a v l.1 h.1,
)

bring-one : (n : ℕ) (fs : List Feed) (a : AttrSet) (v : ℤ) → AreFeeds n fs → Every (BringsOne fs a v) fs
bring-one n [] a v fit = tt
bring-one n (f ∷ fs) a v fit = (
  ap (λ b. map (λ (f : Feed). let p : AttrSet × ℤ = (kept f.keep a, v) in p) (cond b (f ∷ filter (λ g. g.stream == f.stream) fs) (filter (λ g. g.stream == f.stream) fs))) ((unsigned_Decides f.stream f.stream).1 refl)
      ∙ ap (λ l. (kept f.keep a, v) ∷ l) (arrivals_from-none f.stream fs a v fit.1),
  others-bring f fs fs a v fit.1 (bring-one n fs a v fit.2),
)

below : (n : ℕ) (fs : List Feed) → AreFeeds n fs → Every (λ f. f.stream < n) fs
below n [] fit = tt
below n (f ∷ fs) fit = (fit.0, below n fs fit.2)

-- the set under whose point a set is counted, where the points are those of what arrived
counted-is : (shape : Shape) (limit : ℕ) (hs : Arrivals) (a : AttrSet) → counted_under (series_of shape limit hs) a ≡ goes_to (own_sets limit hs) a
counted-is shape limit hs a = by (is_own a) refl
  where
    either : (b c : Bool) → set_eq a overflow_set ≡ true → (if b then a else overflow_set) ≡ (if c then a else overflow_set)
    either true true e = refl
    either true false e = same a overflow_set e
    either false true e = sym (same a overflow_set e)
    either false false e = refl

    by : (b : Bool) → is_own a ≡ b → counted_under (series_of shape limit hs) a ≡ goes_to (own_sets limit hs) a
    by true i = ap (λ t. if t then a else overflow_set) (has_point-own shape limit hs a (has_set (own_sets limit hs) a) i refl)
    by false i = either (has_point (series_of shape limit hs) a) (has_set (own_sets limit hs) a) (not-false (set_eq a overflow_set) i)

-- whether the point that a feed reaches is out of range, by the points of a tally that stands for the recordings
over-is : (t : Tallied) (h : List Entry) (a : AttrSet) (f : Feed) → StandsFor t h → is_over t a f ≡ overflows t.plan h a f
unfolding fed
over-is t h a f s = by (stream_of p m) refl
  where
    p : Planned
    p = t.plan

    m : ℕ
    m = f.stream

    b : AttrSet
    b = kept f.keep a

    hs : Arrivals
    hs = arrivals p m h

    by : (o : Option Stream) → stream_of p m ≡ o
        → option_map_or (λ (s : Stream). is_out_of_range (payload_at s.shape (series_at t.series m) (counted_under (series_at t.series m) b))) o false
        ≡ option_map_or (λ (s : Stream). is_out_of_range (payload_of s.shape (values_of (placements p.limit hs) (goes_to (own_sets p.limit hs) b)))) o false
    by None e = refl
    by (Some x) e =
        let points : series_at t.series m ≡ series_of x.shape p.limit hs = ap (λ ss. series_at ss m) s ∙ got (round p h) m _ [] (round-at p h m x e) in
        ap (λ (es : Points). is_out_of_range (payload_at x.shape es (counted_under es b))) points
        ∙ ap (λ (c : AttrSet). is_out_of_range (payload_at x.shape (series_of x.shape p.limit hs) c)) (counted-is x.shape p.limit hs b)
        ∙ ap is_out_of_range (payload-is x.shape (placements p.limit hs) (goes_to (own_sets p.limit hs) b))

-- the refusal by the points of a tally is that by the recordings for which it stands
pub first_refusal-is : (t : Tallied) (h : List Entry) (e : Entry) → StandsFor t h → fault_of t e ≡ first_refusal t.plan h e
unfolding first_refusal fault_of
first_refusal-is t h e s =
    let k = h ++ e ∷ [] in
    ap (λ (q : Feed → Bool). first (when (is_none (kind_of t.plan e.instrument)) faults.NoInstrument ∷ when (is_negative_for (kind_of t.plan e.instrument) e.value) faults.Negative ∷ option_map (λ (f : Feed). faults.Overflow f.stream) (find q (feeds_of t.plan e.instrument)) ∷ []))
    (λ i f. over-is (after_measure t e) k e.attrs f (stands-push t h e s) i)

-- all feeds where none copies
early-all : (a : AttrSet) (fs : List Feed) → NoneCopies a fs → early_feeds a fs ≡ fs
early-all a [] n = refl
early-all a (f ∷ fs) n = ap (λ b. cond b [] (f ∷ early_feeds a fs)) n.0 ∙ ap (λ l. f ∷ l) (early-all a fs n.1)

-- where no feed copies, nothing is looked for after memory is wanted
pub early-is : (t : Tallied) (e : Entry) → NoneCopies e.attrs (feeds_of t.plan e.instrument) → early_fault_of t e ≡ fault_of t e
unfolding fault_of early_fault_of
early-is t e none = ap (fault_into t e) (early-all e.attrs (feeds_of t.plan e.instrument) none)

-- ---- by the points of one feed's stream before the recording

-- whether a feed's point would be out of range
leaves-is : (t : Tallied) (e : Entry) (f : Feed) → f.stream < length t.plan.streams → BringsOne (feeds_of t.plan e.instrument) e.attrs e.value f
    → leaves_range t.plan e.attrs e.value t.series f ≡ is_over (after_measure t e) e.attrs f
leaves-is t e f l one =
    ap (λ (x : Shape). is_out_of_range (payload_after x es (fed_set p.limit es b) e.value)) (shape-is p m x.0 x.1)
    ∙ ap is_out_of_range (sym (payload-put shape es (fed_set p.limit es b) (payload_after shape es (fed_set p.limit es b) e.value)))
    ∙ ap (λ (c : AttrSet). is_out_of_range (payload_at shape (step shape p.limit es b e.value) c)) (sym (counted-step shape p.limit es b e.value))
    ∙ ap (λ (ns : Points). is_out_of_range (payload_at shape ns (counted_under ns b))) (sym now)
    ∙ sym (ap (λ o. option_map_or (λ (s : Stream). is_out_of_range (payload_at s.shape (series_at (series_after t e) m) (counted_under (series_at (series_after t e) m) b))) o false) x.1)
  where
    p : Planned
    p = t.plan

    m : ℕ
    m = f.stream

    b : AttrSet
    b = kept f.keep e.attrs

    es : Points
    es = series_at t.series m

    x : (s : Stream) × (slice_get p.streams m ≡ Some s)
    x = there p.streams m l

    shape : Shape
    shape = x.0.shape

    now : series_at (series_after t e) m ≡ step shape p.limit es b e.value
    now =
        at-after t e m l
        ∙ ap (λ (y : Shape). points_after y p.limit es (arrivals_from m (feeds_of p e.instrument) e.attrs e.value)) (shape-is p m x.0 x.1)
        ∙ ap (points_after shape p.limit es) one

-- a part of the feeds, of which each has what all have
abbrev IsPart : (List Feed → List Feed) → List Feed → Type 1
IsPart some fs = (P : Feed → Type 0) → Every P fs → Every P (some fs)

pub all-part : (fs : List Feed) → IsPart (λ gs. gs) fs
all-part fs P h = h

pub early-part : (a : AttrSet) (fs : List Feed) → IsPart (early_feeds a) fs
early-part a [] P h = tt
early-part a (f ∷ fs) P h = by (is_copied f.keep a) (early-part a fs P h.1)
  where
    by : (b : Bool) → Every P (early_feeds a fs) → Every P (cond b [] (f ∷ early_feeds a fs))
    by true rest = tt
    by false rest = (h.0, rest)

first-out : (t : Tallied) (e : Entry) (some : List Feed → List Feed) → AreFeeds (length t.plan.streams) (feeds_of t.plan e.instrument) → IsPart some (feeds_of t.plan e.instrument)
    → option_map (λ (f : Feed). faults.Overflow f.stream) (find (is_over (after_measure t e) e.attrs) (some (feeds_of t.plan e.instrument))) ≡ first_out t.plan e.attrs e.value t.series (some (feeds_of t.plan e.instrument))
first-out t e some fit part =
    let p = t.plan in
    let fs = feeds_of p e.instrument in
    sym (ap (option_map (λ (f : Feed). faults.Overflow f.stream))
    (find-same (leaves_range p e.attrs e.value t.series) (is_over (after_measure t e) e.attrs) (some fs)
    (every-map (λ (f : Feed). (f.stream < length p.streams) × BringsOne fs e.attrs e.value f) _ (some fs) (λ f k. leaves-is t e f k.0 k.1)
    (part _ (every-both (λ (f : Feed). f.stream < length p.streams) (BringsOne fs e.attrs e.value) fs (below (length p.streams) fs fit) (bring-one (length p.streams) fs e.attrs e.value fit))))))

-- an instrument is there where its number is below theirs
pub kind-there : (p : Planned) (i : ℕ) → i < length p.instruments → is_none (kind_of p i) ≡ false
kind-there p i l = let t = there p.instruments i l in ap (λ o. is_none (option_map (λ (s : Source). s.kind) o)) t.1

pub kind-gone : (p : Planned) (i : ℕ) → (i < length p.instruments → ⊥) → is_none (kind_of p i) ≡ true
kind-gone p i n = by (slice_get p.instruments i) refl
  where
    by : (o : Option Source) → slice_get p.instruments i ≡ o → is_none (option_map (λ (s : Source). s.kind) o) ≡ true
    by None e = refl
    by (Some s) e = absurd (n (within p.instruments i s e))

or-nothing : {X : Type 0} (o : Option X) → option_or o None ≡ o
or-nothing None = refl
or-nothing (Some x) = refl

abbrev over : Tallied → Entry → List Feed → Option TallyFault
over t e fs = option_map (λ f. faults.Overflow f.stream) (find (is_over (after_measure t e) e.attrs) fs)

-- no instrument, and a value below 0
pub into-gone : (t : Tallied) (e : Entry) (fs : List Feed) → is_none (kind_of t.plan e.instrument) ≡ true → fault_into t e fs ≡ Some faults.NoInstrument
into-gone t e fs n = ap (λ b. first (when b faults.NoInstrument ∷ when (is_negative_for (kind_of t.plan e.instrument) e.value) faults.Negative ∷ over t e fs ∷ [])) n

pub into-negative : (t : Tallied) (e : Entry) (fs : List Feed) → is_none (kind_of t.plan e.instrument) ≡ false → is_negative_for (kind_of t.plan e.instrument) e.value ≡ true → fault_into t e fs ≡ Some faults.Negative
into-negative t e fs n b =
    ap (λ c. first (when c faults.NoInstrument ∷ when (is_negative_for (kind_of t.plan e.instrument) e.value) faults.Negative ∷ over t e fs ∷ [])) n
    ∙ ap (λ c. first (when c faults.Negative ∷ over t e fs ∷ [])) b

-- past these two, it is refused as the first point that would be out of range says
pub into-points : (t s : Tallied) (e : Entry) (some : List Feed → List Feed) (fs : List Feed) → t ≡ s → fs ≡ feeds_of t.plan e.instrument → IsPart some fs → AreFeeds (length t.plan.streams) fs
    → is_none (kind_of t.plan e.instrument) ≡ false → is_negative_for (kind_of t.plan e.instrument) e.value ≡ false
    → fault_into s e (some (feeds_of s.plan e.instrument)) ≡ first_out t.plan e.attrs e.value t.series (some fs)
into-points t s e some fs same is part fit n b =
    ap (λ (x : Tallied). fault_into x e (some (feeds_of x.plan e.instrument))) (sym same)
    ∙ ap (λ c. first (when c faults.NoInstrument ∷ when (is_negative_for (kind_of t.plan e.instrument) e.value) faults.Negative ∷ over t e (some (feeds_of t.plan e.instrument)) ∷ [])) n
    ∙ ap (λ c. first (when c faults.Negative ∷ over t e (some (feeds_of t.plan e.instrument)) ∷ [])) b
    ∙ or-nothing (over t e (some (feeds_of t.plan e.instrument)))
    ∙ first-out t e some (subst (AreFeeds (length t.plan.streams)) is fit) (subst (IsPart some) is part)
    ∙ ap (λ (gs : List Feed). first_out t.plan e.attrs e.value t.series (some gs)) (sym is)
