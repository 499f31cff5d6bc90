-- What a list of recordings comes to, as one more recording is accepted.
use Rattle.std.proofs.Common.{◌≡◌, ◌≢◌, ℕ, ℤ, ◌<◌, ◌==◌, ◌+◌, Bool, true, false, cond, List, [], ◌∷◌, ◌++◌, Some, length, slice_get, get_or, set, refl, sym, ap, subst, ◌∙◌, arith, suc, zero, true≢false, map, filter, replicate, append-nil, append_assoc}
use Rattle.std.specs.Cmp.{unsigned_Decides}
use Rattle.std.specs.List.{enumerate_from}
use Rattle.std.specs.Option.{option_map_or}
use Rattle.std.proofs.lemmas.Grind.{flat_map-append}
use Rattle.std.proofs.lemmas.List.{length-set, length-map, get_or-set_same, get_or-set_other, ext_get_or}
use Rattle.std.proofs.lemmas.List.FromFn.{length-enumerate_from}
use Rattle.attr_kit.specs.declared.attr_set.AttrSet.{AttrSet}
use Rattle.attr_kit.specs.Keeping.{kept}
use Rattle.point_kit.specs.declared.shape.Shape.{Shape}
use Rattle.point_kit.specs.declared.shape.Shape.TheVariants as shapes
use Rattle.point_kit.specs.declared.stream.Stream.{Stream}
use Rattle.plan_kit.specs.Plans.{Planned, feeds_of, stream_of, lacks, AreFeeds}
use Rattle.plan_kit.specs.declared.feed.Feed.{Feed}
use Rattle.agg_kit.specs.Entries.{Entry, Arrivals, arrivals_from, arrivals}
use Rattle.agg_kit.specs.Feeding.{fed, placements}
use Rattle.agg_kit.specs.Feeds.{series_at, shape_at, after_feeds}
use Rattle.agg_kit.specs.Measuring.{emptied_tally, points_after, series_after}
use Rattle.agg_kit.specs.Rounds.{points_of, round, StandsFor}
use Rattle.agg_kit.specs.Steps.{step}
use Rattle.agg_kit.specs.Tallies.{Points, Tallied}
use Rattle.agg_kit.proofs.SeriesLaws.{series_of, series-push}

-- reading a list at a place
pub got : {X : Type 0} (xs : List X) (m : ℕ) (x d : X) → slice_get xs m ≡ Some x → get_or xs m d ≡ x
got [] m x d h = absurd (cc)
got (y ∷ xs) zero x d h = cc
got (y ∷ xs) (suc m) x d h = got xs m x d h

pub there : {X : Type 0} (xs : List X) (m : ℕ) → m < length xs → (x : X) × (slice_get xs m ≡ Some x)
there [] m h = absurd (omega arith)
there (y ∷ xs) zero h = (y, refl)
there (y ∷ xs) (suc m) h = there xs m (omega arith)

pub within : {X : Type 0} (xs : List X) (m : ℕ) (x : X) → slice_get xs m ≡ Some x → m < length xs
within [] m x h = absurd (cc)
within (y ∷ xs) zero x h = omega arith
within (y ∷ xs) (suc m) x h = let k = within xs m x h in omega arith

at-enumerated : {X Y : Type 0} (f : ℕ × X → Y) (n : ℕ) (xs : List X) (m : ℕ) (x : X) → slice_get xs m ≡ Some x → slice_get (map f (enumerate_from n xs)) m ≡ Some (f (n + m, x))
at-enumerated f n [] m x h = absurd (cc)
at-enumerated {X = X} f n (y ∷ xs) zero x h =
    let e : y ≡ x = cc in
    let z : n ≡ n + 0 = omega arith in
    λ i. Some (f (z i, e i))
at-enumerated {X = X} f n (y ∷ xs) (suc m) x h =
    let z : (n + 1) + m ≡ n + suc m = omega arith in
    at-enumerated f (n + 1) xs m x h ∙ ap (λ k. Some (f (k, x))) z

-- the round has points for each stream
pub length-round : (p : Planned) (h : List Entry) → length (round p h) ≡ length p.streams
unfolding round
length-round p h = length-map (enumerate_from 0 p.streams) (λ s. points_of s.1.shape (fed p s.0 h)) ∙ length-enumerate_from 0 p.streams

-- the points of a stream are those of what is fed there
pub round-at : (p : Planned) (h : List Entry) (m : ℕ) (s : Stream) → stream_of p m ≡ Some s → slice_get (round p h) m ≡ Some (points_of s.shape (fed p m h))
unfolding round
round-at p h m s e =
    let z : 0 + m ≡ m = omega arith in
    at-enumerated (λ s. points_of s.1.shape (fed p s.0 h)) 0 p.streams m s e ∙ ap (λ k. Some (points_of s.shape (fed p k h))) z

pub shape-is : (p : Planned) (m : ℕ) (s : Stream) → stream_of p m ≡ Some s → shape_at p m ≡ s.shape
shape-is p m s e = ap (λ o. option_map_or (λ (s : Stream). s.shape) o shapes.Gauge) e

pub at-round : (p : Planned) (h : List Entry) (m : ℕ) → m < length p.streams → series_at (round p h) m ≡ series_of (shape_at p m) p.limit (arrivals p m h)
unfolding fed
at-round p h m l =
    let t = there p.streams m l in
    got (round p h) m _ [] (round-at p h m t.0 t.1) ∙ ap (λ (s : Shape). series_of s p.limit (arrivals p m h)) (sym (shape-is p m t.0 t.1))

apart : (m n : ℕ) → (m ≢ n) → (n == m) ≡ false
apart m n h = by (n == m) refl
  where
    by : (b : Bool) → (n == m) ≡ b → b ≡ false
    by true e = absurd (h (sym ((unsigned_Decides n m).0 e)))
    by false e = refl

at-set : (xs : List Points) (s m : ℕ) (x : Points) → m < length xs → series_at (set xs s x) m ≡ cond (s == m) x (series_at xs m)
at-set xs s m x h = by (s == m) refl
  where
    by : (b : Bool) → (s == m) ≡ b → series_at (set xs s x) m ≡ cond b x (series_at xs m)
    by true e = subst (λ (k : ℕ). get_or (set xs k x) m [] ≡ x) (sym ((unsigned_Decides s m).0 e)) (get_or-set_same xs m x [] h)
    by false e = get_or-set_other xs s m x [] (λ p. true≢false (sym ((unsigned_Decides s m).1 (sym p)) ∙ e))

-- a series after what a recording brings
abbrev steps : Shape → ℕ → Points → Arrivals → Points
steps shape limit s [] = s
steps shape limit s (h ∷ hs) = step shape limit (steps shape limit s hs) h.0 h.1

pub length-after_feeds : (p : Planned) (fs : List Feed) (a : AttrSet) (v : ℤ) (ss : List Points) → length (after_feeds p fs a v ss) ≡ length ss
length-after_feeds p [] a v ss = refl
length-after_feeds p (f ∷ fs) a v ss = length-set _ _ _ ∙ length-after_feeds p fs a v ss

at-after_feeds : (p : Planned) (fs : List Feed) (a : AttrSet) (v : ℤ) (ss : List Points) (m : ℕ) → m < length ss
    → series_at (after_feeds p fs a v ss) m ≡ steps (shape_at p m) p.limit (series_at ss m) (arrivals_from m fs a v)
at-after_feeds p [] a v ss m h = refl
at-after_feeds p (f ∷ fs) a v ss m h =
    at-set (after_feeds p fs a v ss) f.stream m (step (shape_at p f.stream) p.limit (series_at (after_feeds p fs a v ss) f.stream) (kept f.keep a) v) (subst (λ (n : ℕ). m < n) (sym (length-after_feeds p fs a v ss)) h)
    ∙ by (at-after_feeds p fs a v ss m h) (f.stream == m) refl
  where
    by : series_at (after_feeds p fs a v ss) m ≡ steps (shape_at p m) p.limit (series_at ss m) (arrivals_from m fs a v) → (b : Bool) → (f.stream == m) ≡ b
        → cond b (step (shape_at p f.stream) p.limit (series_at (after_feeds p fs a v ss) f.stream) (kept f.keep a) v) (series_at (after_feeds p fs a v ss) m)
        ≡ steps (shape_at p m) p.limit (series_at ss m) (map (λ f. (kept f.keep a, v)) (cond b (f ∷ filter (λ f. f.stream == m) fs) (filter (λ f. f.stream == m) fs)))
    by go true e = ap (λ n. step (shape_at p n) p.limit (series_at (after_feeds p fs a v ss) n) (kept f.keep a) v) ((unsigned_Decides f.stream m).0 e) ∙ ap (λ s. step (shape_at p m) p.limit s (kept f.keep a) v) go
    by go false e = go

pub arrivals_from-none : (m : ℕ) (fs : List Feed) (a : AttrSet) (v : ℤ) → lacks m fs → arrivals_from m fs a v ≡ []
arrivals_from-none m [] a v l = refl
arrivals_from-none m (f ∷ fs) a v l =
    ap (λ b. map (λ (f : Feed). let p : AttrSet × ℤ = (kept f.keep a, v) in p) (cond b (f ∷ filter (λ f. f.stream == m) fs) (filter (λ f. f.stream == m) fs))) (apart m f.stream l.0) ∙ arrivals_from-none m fs a v l.1

steps-brought : (shape : Shape) (limit n m : ℕ) (es : Points) (fs : List Feed) (a : AttrSet) (v : ℤ) → AreFeeds n fs
    → steps shape limit es (arrivals_from m fs a v) ≡ points_after shape limit es (arrivals_from m fs a v)
steps-brought shape limit n m es [] a v fit = refl
steps-brought shape limit n m es (f ∷ fs) a v fit = by (steps-brought shape limit n m es fs a v fit.2) (f.stream == m) refl
  where
    all : Bool → Arrivals
    all b = map (λ f. (kept f.keep a, v)) (cond b (f ∷ filter (λ f. f.stream == m) fs) (filter (λ f. f.stream == m) fs))

    by : steps shape limit es (arrivals_from m fs a v) ≡ points_after shape limit es (arrivals_from m fs a v) → (b : Bool) → (f.stream == m) ≡ b
        → steps shape limit es (all b) ≡ points_after shape limit es (all b)
    by go true e =
        let none : arrivals_from m fs a v ≡ [] = subst (λ (k : ℕ). arrivals_from k fs a v ≡ []) ((unsigned_Decides f.stream m).0 e) (arrivals_from-none f.stream fs a v fit.1) in
        subst (λ (l : Arrivals). step shape limit (steps shape limit es l) (kept f.keep a) v ≡ points_after shape limit (step shape limit es (kept f.keep a) v) l) (sym none) refl
    by go false e = go

-- what lists one after the other bring
pub arrivals-append : (p : Planned) (m : ℕ) (h k : List Entry) → arrivals p m (h ++ k) ≡ arrivals p m h ++ arrivals p m k
arrivals-append p m h k = flat_map-append (λ e. arrivals_from m (feeds_of p e.instrument) e.attrs e.value) h k

pub arrivals-push : (p : Planned) (m : ℕ) (h : List Entry) (e : Entry) → arrivals p m (h ++ e ∷ []) ≡ arrivals p m h ++ arrivals_from m (feeds_of p e.instrument) e.attrs e.value
arrivals-push p m h e = arrivals-append p m h (e ∷ []) ∙ ap (λ l. arrivals p m h ++ l) (append-nil (arrivals_from m (feeds_of p e.instrument) e.attrs e.value))

-- what a tally that stands for h has for a stream
pub stands-at : (t : Tallied) (h : List Entry) (m : ℕ) → m < length t.plan.streams → StandsFor t h → series_at t.series m ≡ series_of (shape_at t.plan m) t.plan.limit (arrivals t.plan m h)
stands-at t h m l s = ap (λ ss. series_at ss m) s ∙ at-round t.plan h m l

-- the points of a stream after a recording
pub length-after : (t : Tallied) (e : Entry) → length (series_after t e) ≡ length t.plan.streams
unfolding series_after
length-after t e =
    length-map (enumerate_from 0 t.plan.streams) (λ s. points_after s.1.shape t.plan.limit (series_at t.series s.0) (arrivals_from s.0 (feeds_of t.plan e.instrument) e.attrs e.value)) ∙ length-enumerate_from 0 t.plan.streams

pub at-after : (t : Tallied) (e : Entry) (m : ℕ) → m < length t.plan.streams
    → series_at (series_after t e) m ≡ points_after (shape_at t.plan m) t.plan.limit (series_at t.series m) (arrivals_from m (feeds_of t.plan e.instrument) e.attrs e.value)
unfolding series_after
at-after t e m l =
    let z : 0 + m ≡ m = omega arith in
    let s = there t.plan.streams m l in
    let F : ℕ × Stream → Points = λ s. points_after s.1.shape t.plan.limit (series_at t.series s.0) (arrivals_from s.0 (feeds_of t.plan e.instrument) e.attrs e.value) in
    got (series_after t e) m (F (m, s.0)) [] (at-enumerated F 0 t.plan.streams m s.0 s.1 ∙ ap (λ k. Some (F (k, s.0))) z)
    ∙ ap (λ (x : Shape). points_after x t.plan.limit (series_at t.series m) (arrivals_from m (feeds_of t.plan e.instrument) e.attrs e.value)) (sym (shape-is t.plan m s.0 s.1))

series-more : (shape : Shape) (limit : ℕ) (hs xs : Arrivals) → points_after shape limit (series_of shape limit hs) xs ≡ series_of shape limit (hs ++ xs)
series-more shape limit hs [] = ap (series_of shape limit) (sym (append-nil hs))
series-more shape limit hs (x ∷ xs) =
    ap (λ es. points_after shape limit es xs) (sym (series-push shape limit hs x.0 x.1))
    ∙ series-more shape limit (hs ++ x ∷ []) xs
    ∙ ap (series_of shape limit) (append_assoc hs (x ∷ []) xs)

-- a tally that stands for h stands for h and one more recording, once each stream has taken it
pub stands-push : (t : Tallied) (h : List Entry) (e : Entry) → StandsFor t h → series_after t e ≡ round t.plan (h ++ e ∷ [])
stands-push t h e s =
    let p = t.plan in
    let fs = feeds_of p e.instrument in
    ext_get_or [] (series_after t e) (round p (h ++ e ∷ []))
    (length-after t e ∙ sym (length-round p (h ++ e ∷ [])))
    (λ m k.
    let l : m < length p.streams = subst (λ (n : ℕ). m < n) (length-after t e) k in
    at-after t e m l
    ∙ ap (λ (x : Points). points_after (shape_at p m) p.limit x (arrivals_from m fs e.attrs e.value)) (stands-at t h m l s)
    ∙ series-more (shape_at p m) p.limit (arrivals p m h) (arrivals_from m fs e.attrs e.value)
    ∙ ap (series_of (shape_at p m) p.limit) (sym (arrivals-push p m h e))
    ∙ sym (at-round p (h ++ e ∷ []) m l))

-- feeds with streams of their own, one after the other, make the same
pub applied-is : (t : Tallied) (e : Entry) (fs : List Feed) → fs ≡ feeds_of t.plan e.instrument → AreFeeds (length t.plan.streams) fs → length t.series ≡ length t.plan.streams
    → after_feeds t.plan fs e.attrs e.value t.series ≡ series_after t e
applied-is t e fs is fit long =
    let p = t.plan in
    ext_get_or [] (after_feeds p fs e.attrs e.value t.series) (series_after t e)
    (length-after_feeds p fs e.attrs e.value t.series ∙ long ∙ sym (length-after t e))
    (λ m k.
    let k' : m < length t.series = subst (λ (n : ℕ). m < n) (length-after_feeds p fs e.attrs e.value t.series) k in
    let l : m < length p.streams = subst (λ (n : ℕ). m < n) long k' in
    at-after_feeds p fs e.attrs e.value t.series m k'
    ∙ steps-brought (shape_at p m) p.limit (length p.streams) m (series_at t.series m) fs e.attrs e.value fit
    ∙ ap (λ (gs : List Feed). points_after (shape_at p m) p.limit (series_at t.series m) (arrivals_from m gs e.attrs e.value)) is
    ∙ sym (at-after t e m l))

-- no recordings come to no points
pub round-none : (p : Planned) → round p [] ≡ replicate (length p.streams) []
unfolding round fed
round-none p = each p.streams 0
  where
    each : (ss : List Stream) (n : ℕ) → map (λ s. points_of s.1.shape (placements p.limit (arrivals p s.0 []))) (enumerate_from n ss) ≡ replicate (length ss) []
    each [] n = refl
    each (s ∷ ss) n = ap (λ l. [] ∷ l) (each ss (n + 1))

-- a tally of no points begins anew
pub begins : (t : Tallied) (n : ℕ) → t.series ≡ replicate n [] → n ≡ length t.plan.streams → t ≡ emptied_tally t
begins t n none len =
    let is : t.series ≡ round t.plan [] = none ∙ ap (λ (n : ℕ). replicate n []) len ∙ sym (round-none t.plan) in
    λ i. record t { series = is i }
