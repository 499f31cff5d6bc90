-- The points of the first streams and of one more, and those of the first series and of one more.
use Rattle.std.proofs.Common.{◌≡◌, ◌<◌, ◌+◌, ◌++◌, ◌∙◌, ℕ, zero, suc, List, [], ◌∷◌, Some, None, length, take, refl, sym, ap, arith, append_assoc, append-nil, slice_get, subst}
use Rattle.std.specs.Prelude.{min, sum_by}
use Rattle.std.specs.Option.{unwrap_or, option_map}
use Rattle.std.proofs.lemmas.List.Sums.{sum_by_more}
use Rattle.std.proofs.lemmas.Option.{same_Some}
use Rattle.agg_kit.specs.Feeds.{series_at}
use Rattle.agg_kit.specs.Tallies.{Points}
use Rattle.attr_kit.specs.declared.attr_set.AttrSet.{AttrSet}
use Rattle.plan_kit.specs.Plans.{AreApart}
use Rattle.point_kit.specs.declared.export_point.ExportPoint.{ExportPoint}
use Rattle.point_kit.specs.declared.payload.Payload.{Payload}
use Rattle.point_kit.specs.declared.stream.Stream.{Stream}
use Rattle.round_kit.specs.Rounds.{points_at, points_of}

-- the point of a set and a payload
abbrev pub point : Stream → AttrSet × Payload → ExportPoint
point s e = record { stream = s; attrs = e.0; payload = e.1 }

one_more_suc : (ss : List Stream) (ess : List Points) (n : ℕ) (s : Stream) (es : Points) → slice_get ss n ≡ Some s → slice_get ess n ≡ Some es
    → points_of (take (suc n) ss) (take (suc n) ess) ≡ points_of (take n ss) (take n ess) ++ points_at s es
one_more_suc [] ess n s es a b = cc
one_more_suc (t ∷ ts) [] n s es a b = cc
one_more_suc (t ∷ ts) (fs ∷ fss) zero s es a b =
    let streams : t ≡ s = same_Some t s a in
    let points : fs ≡ es = same_Some fs es b in
    append-nil (points_at t fs) ∙ (λ i. points_at (streams i) (points i))
one_more_suc (t ∷ ts) (fs ∷ fss) (suc n) s es a b =
    ap (λ l. points_at t fs ++ l) (one_more_suc ts fss n s es a b) ∙ sym (append_assoc (points_at t fs) (points_of (take n ts) (take n fss)) (points_at s es))

-- the points of one stream more
pub one_more : (ss : List Stream) (ess : List Points) (n : ℕ) (s : Stream) (es : Points) → slice_get ss n ≡ Some s → slice_get ess n ≡ Some es
    → points_of (take (n + 1) ss) (take (n + 1) ess) ≡ points_of (take n ss) (take n ess) ++ points_at s es
one_more ss ess n s es a b =
    let next : suc n ≡ n + 1 = omega arith in
    subst (λ (m : ℕ). points_of (take m ss) (take m ess) ≡ points_of (take n ss) (take n ess) ++ points_at s es) next (one_more_suc ss ess n s es a b)

one_point : (s : Stream) (es : Points) (k : ℕ) (e : AttrSet × Payload) → slice_get es k ≡ Some e → points_at s (take (suc k) es) ≡ points_at s (take k es) ++ point s e ∷ []
one_point s [] k e at = cc
one_point s (x ∷ es) zero e at = ap (λ y. point s y ∷ []) (same_Some x e at)
one_point s (x ∷ es) (suc k) e at = ap (λ l. point s x ∷ l) (one_point s es k e at)

-- one point more is placed
pub placed_more : (done before : List ExportPoint) (s : Stream) (es : Points) (k : ℕ) (a b : AttrSet) (t u : Payload) → slice_get es k ≡ Some (a, t) → b ≡ a → u ≡ t
    → done ≡ before ++ points_at s (take k es)
    → done ++ record { stream = s; attrs = b; payload = u } ∷ [] ≡ before ++ points_at s (take (k + 1) es)
placed_more done before s es k a b t u at same_set same_payload so_far =
    let next : suc k ≡ k + 1 = omega arith in
    let same : point s (b, u) ≡ point s (a, t) = λ i. point s (same_set i, same_payload i) in
    (λ i. so_far i ++ same i ∷ [])
    ∙ append_assoc before (points_at s (take k es)) (point s (a, t) ∷ [])
    ∙ ap (λ l. before ++ l) (sym (one_point s es k (a, t) at))
    ∙ ap (λ (m : ℕ). before ++ points_at s (take m es)) next

-- there is an element at each place below the length
pub there : {A : Type 0} (xs : List A) (k : ℕ) → k < length xs → (x : A) × (slice_get xs k ≡ Some x)
there [] k h = absurd (omega arith)
there (x ∷ xs) zero h = (x, refl)
there (x ∷ xs) (suc k) h = there xs k (omega arith)

pub none_there : {A : Type 0} (xs : List A) (k : ℕ) → slice_get xs k ≡ None → k < length xs → ⊥
none_there [] k e h = omega arith
none_there (x ∷ xs) zero e h = cc
none_there (x ∷ xs) (suc k) e h = none_there xs k e (omega arith)

pub series_there : (ess : List Points) (m : ℕ) (es : Points) → slice_get ess m ≡ Some es → series_at ess m ≡ es
series_there [] m es e = cc
series_there (x ∷ ess) zero es e = same_Some x es e
series_there (x ∷ ess) (suc m) es e = series_there ess m es e

-- how many points a stream has
pub points_len : (ess : List Points) (m : ℕ) → unwrap_or (option_map (λ (es : Points). length es) (slice_get ess m)) 0 ≡ length (series_at ess m)
points_len [] m = refl
points_len (es ∷ ess) zero = refl
points_len (es ∷ ess) (suc m) = points_len ess m

-- no streams are apart
pub apart_from : (ss : List Stream) (n : ℕ) → n ≡ length ss → (0 < n → AreApart ss) → AreApart ss
apart_from [] n e h = λ i j s at other. absurd (cc)
apart_from (s ∷ ss) n e h = h (omega arith)

-- how many points the first streams and one more have
pub more_points : (ess : List Points) (n : ℕ) → n < length ess
    → sum_by (λ (es : Points). length es) (take (n + 1) ess) ≡ sum_by (λ (es : Points). length es) (take n ess) + length (series_at ess n)
more_points ess n h = sum_by_more (λ (es : Points). length es) ess n [] h

-- a bound on a sum may be kept at each step
pub bounded_sum : (s l m : ℕ) → min (min s m + l) m ≡ min (s + l) m
bounded_sum s l m = omega arith

-- a series without a first point has none
pub no_points : (s : Stream) (es : Points) → slice_get es 0 ≡ None → points_at s es ≡ []
no_points s [] none = refl
no_points s (e ∷ es) none = cc
