-- No refusal fits the points of a tally: each is sound in its stream, and no two are of one stream and one set.
use Rattle.std.proofs.Common.{◌≡◌, ◌<◌, ◌&&◌, ◌++◌, ℕ, zero, suc, Bool, true, false, List, [], ◌∷◌, Some, None, arith, refl, sym, ap, slice_get}
use Rattle.std.proofs.lemmas.Bool.{and_right, or_parts}
use Rattle.std.specs.List.{All, AllByRecursion, IsDistinct}
use Rattle.std.specs.Map.{keys_of}
use Rattle.agg_kit.specs.Feeding.{set_eq, has_set}
use Rattle.agg_kit.specs.Sound as tallied
use Rattle.agg_kit.specs.Tallies.{Points}
use Rattle.plan_kit.specs.Plans.{AreApart}
use Rattle.point_kit.proofs.Sound.{fitting_builds}
use Rattle.point_kit.specs.Exact.{exact_streams}
use Rattle.point_kit.specs.ExportFaults.{export_fault, same_key}
use Rattle.point_kit.specs.contracts.stream.StreamPartialEq.TheImpl as streams
use Rattle.point_kit.specs.declared.export_point.ExportPoint.{ExportPoint}
use Rattle.point_kit.specs.declared.stream.Stream.{Stream}
use Rattle.round_kit.specs.Rounds.{points_at, points_of}

abbrev stream_eq : Stream → Stream → Bool
stream_eq = (streams.ghosts).eq

-- a point that is sound in its stream
abbrev Fits : ExportPoint → Type 0
Fits p = tallied.IsSound p.stream.shape p.payload

all_append : {A : Type 0} (P : A → Type 0) (xs ys : List A) → AllByRecursion P xs → AllByRecursion P ys → AllByRecursion P (xs ++ ys)
all_append P [] ys a b = b
all_append P (x ∷ xs) ys a b = (a.0, all_append P xs ys a.1 b)

all_with : {A : Type 0} (P Q : A → Type 0) → ((x : A) → P x → Q x) → (xs : List A) → AllByRecursion P xs → All Q xs
all_with P Q f [] a k d h = absurd (omega arith)
all_with P Q f (x ∷ xs) a zero d h = f x a.0
all_with P Q f (x ∷ xs) a (suc k) d h = all_with P Q f xs a.1 k d (omega arith)

fit_at : (s : Stream) (es : Points) → tallied.AreSound s.shape es → AllByRecursion Fits (points_at s es)
fit_at s [] h = tt
fit_at s (e ∷ es) h = (h.0, fit_at s es h.1)

fit_of : (ss : List Stream) (ess : List Points) → tallied.AllSound ss ess → AllByRecursion Fits (points_of ss ess)
fit_of [] ess h = tt
fit_of (s ∷ ss) [] h = tt
fit_of (s ∷ ss) (es ∷ ess) h = all_append Fits (points_at s es) (points_of ss ess) (fit_at s es h.0) (fit_of ss ess h.2)

unequal : (a b : Stream) → (a ≡ b → ⊥) → stream_eq a b ≡ false
unequal a b apart = by_cases (stream_eq a b) refl where
  by_cases : (r : Bool) → stream_eq a b ≡ r → stream_eq a b ≡ false
  by_cases true e = absurd (apart (exact_streams a b e))
  by_cases false e = e

-- a point whose set is none of these has another key than each of them
other_sets : (s : Stream) (p : ExportPoint) (es : Points) → has_set (keys_of es) p.attrs ≡ false → AllByRecursion (λ q. same_key p q ≡ false) (points_at s es)
other_sets s p [] h = tt
other_sets s p (e ∷ es) h =
    let both = or_parts (set_eq p.attrs e.0) (has_set (keys_of es) p.attrs) h in
    (and_right (stream_eq p.stream s) (set_eq p.attrs e.0) both.0, other_sets s p es both.1)

distinct_at : (s : Stream) (es : Points) → tallied.AreOnce (keys_of es) → IsDistinct same_key (points_at s es)
unfolding IsDistinct
distinct_at s [] h = tt
distinct_at s (e ∷ es) h = (other_sets s (record { stream = s; attrs = e.0; payload = e.1 }) es h.0, distinct_at s es h.1)

-- a stream that is none of these
abbrev IsOther : Stream → List Stream → Type 0
IsOther s ss = (j : ℕ) → slice_get ss j ≡ Some s → ⊥

other_at : (p : ExportPoint) (t : Stream) (es : Points) → stream_eq p.stream t ≡ false → AllByRecursion (λ q. same_key p q ≡ false) (points_at t es)
other_at p t [] h = tt
other_at p t (e ∷ es) h = (ap (λ r. r && set_eq p.attrs e.0) h, other_at p t es h)

other_streams : (p : ExportPoint) (ss : List Stream) (ess : List Points) → IsOther p.stream ss → AllByRecursion (λ q. same_key p q ≡ false) (points_of ss ess)
other_streams p [] ess h = tt
other_streams p (s ∷ ss) [] h = tt
other_streams p (s ∷ ss) (es ∷ ess) h =
    all_append (λ q. same_key p q ≡ false) (points_at s es) (points_of ss ess)
    (other_at p s es (unequal p.stream s (λ e. h 0 (ap (λ x. Some x) (sym e)))))
    (other_streams p ss ess (λ j e. h (suc j) e))

distinct_append : (xs ys : List ExportPoint) → IsDistinct same_key xs → IsDistinct same_key ys → AllByRecursion (λ x. AllByRecursion (λ y. same_key x y ≡ false) ys) xs → IsDistinct same_key (xs ++ ys)
unfolding IsDistinct
distinct_append [] ys a b c = b
distinct_append (x ∷ xs) ys a b c = (all_append (λ y. same_key x y ≡ false) xs ys a.0 c.0, distinct_append xs ys a.1 b c.1)

all_other : (s : Stream) (es : Points) (ss : List Stream) (ess : List Points) → IsOther s ss → AllByRecursion (λ x. AllByRecursion (λ y. same_key x y ≡ false) (points_of ss ess)) (points_at s es)
all_other s [] ss ess h = tt
all_other s (e ∷ es) ss ess h = (other_streams (record { stream = s; attrs = e.0; payload = e.1 }) ss ess h, all_other s es ss ess h)

distinct_of : (ss : List Stream) (ess : List Points) → AreApart ss → tallied.AllSound ss ess → IsDistinct same_key (points_of ss ess)
unfolding IsDistinct
distinct_of [] ess a h = tt
distinct_of (s ∷ ss) [] a h = tt
distinct_of (s ∷ ss) (es ∷ ess) a h =
    let other : IsOther s ss = λ j e. (let same : 0 ≡ suc j = a 0 (suc j) s refl e in absurd (omega (arith, same))) in
    let rest : AreApart ss = λ i j t e f. (let same : suc i ≡ suc j = a (suc i) (suc j) t e f in omega (arith, same)) in
    distinct_append (points_at s es) (points_of ss ess) (distinct_at s es h.1) (distinct_of ss ess rest h.2) (all_other s es ss ess other)

-- no refusal fits
pub tally_builds : (start time : ℕ) (ss : List Stream) (ess : List Points) → start < time → AreApart ss → tallied.AllSound ss ess → export_fault start time (points_of ss ess) ≡ None
tally_builds start time ss ess later apart sound =
    let fits = fit_of ss ess sound in
    let ps = points_of ss ess in
    fitting_builds start time ps later (distinct_of ss ess apart sound)
    (all_with Fits _ (λ p h. h.shaped) ps fits)
    (all_with Fits _ (λ p h. h.bucketed) ps fits)
    (all_with Fits _ (λ p h. h.counted) ps fits)
    (all_with Fits _ (λ p h. h.risen) ps fits)
    (all_with Fits _ (λ p h. h.ranged) ps fits)
