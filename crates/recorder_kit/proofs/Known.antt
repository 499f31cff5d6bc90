-- Places that are known of what a log names.
use Rattle.std.proofs.Common.{◌≡◌, ℕ, ◌<◌, List, [], ◌∷◌, Some, length, get_or, slice_get, Ok, Err, OnOk, OnErr, Result, sym, ap, subst, suc, zero, ◌∙◌}
use Rattle.std.specs.Prelude.{slice_set}
use Rattle.attr_kit.specs.declared.attr_set.AttrSet.{AttrSet}
use Rattle.agg_kit.specs.Held.{AreOf}
use Rattle.agg_kit.specs.Tallies.{Tallied}
use Rattle.agg_kit.specs.declared.held.Places.{Places}
use Rattle.agg_kit.proofs.HeldPoints.{places_stay_by_set, places_stay_held}
use Rattle.recorder_kit.specs.Lines.{nothing_named, AllKnown}
use Rattle.recorder_kit.specs.Log.{Recording, ByName, ByNumber, after_at}
use Rattle.recorder_kit.specs.declared.line.Named.{Named}
use Rattle.recorder_kit.proofs.Logs.{found, got}

-- they stay, whatever came of a recording
pub known-after : {T E : Type 0} (r : Result T E) (t now : Tallied) (x : Recording) (ns : List Named) (ks : List AttrSet) (ps : List Places)
    → OnOk r (now ≡ after_at t x) → OnErr r (now ≡ t) → AllKnown t ns ks ps → AllKnown now ns ks ps
known-after (Ok u) t now (ByName e) ns ks ps is same known = λ j p at.
    let m = get_or ns j nothing_named in
    subst (λ (s : Tallied). AreOf s m.instrument (get_or ks m.set []) p) (sym is) (places_stay_by_set t e m.instrument (get_or ks m.set []) p (known j p at))
known-after (Ok u) t now (ByNumber n v) ns ks ps is same known = λ j p at.
    let m = get_or ns j nothing_named in
    subst (λ (s : Tallied). AreOf s m.instrument (get_or ks m.set []) p) (sym is) (places_stay_held t n v m.instrument (get_or ks m.set []) p (known j p at))
known-after (Err u) t now x ns ks ps is same known = λ j p at.
    let m = get_or ns j nothing_named in
    subst (λ (s : Tallied). AreOf s m.instrument (get_or ks m.set []) p) (sym same) (known j p at)

-- those of one name are read
pub known-here : (t : Tallied) (ns : List Named) (ks : List AttrSet) (ps : List Places) (j : ℕ) (k : Places) (m : Named) (a : AttrSet)
    → slice_get ns j ≡ Some m → slice_get ks m.set ≡ Some a → j < length ps → k ≡ get_or ps j k → AllKnown t ns ks ps → AreOf t m.instrument a k
known-here t ns ks ps j k m a name set l was known =
    subst (λ (b : AttrSet). AreOf t m.instrument b k) (got ks m.set a [] set)
    (subst (λ (x : Named). AreOf t x.instrument (get_or ks x.set []) k) (got ns j m nothing_named name)
    (known j k (found ps j k l ∙ ap (λ (p : Places). Some p) (sym was))))

-- another in the place of one
set-all : {X : Type 0} (P : ℕ → X → Type 0) (qs : List X) (j i : ℕ) (k p : X) → slice_get (slice_set qs j k) i ≡ Some p → P j k → (slice_get qs i ≡ Some p → P i p) → P i p
set-all P [] j i k p at one known = known at
set-all P (q ∷ qs) zero zero k p at one known = let is : k ≡ p = cc in subst (P zero) is one
set-all P (q ∷ qs) zero (suc i) k p at one known = known at
set-all P (q ∷ qs) (suc j) zero k p at one known = known at
set-all P (q ∷ qs) (suc j) (suc i) k p at one known = set-all (λ n x. P (suc n) x) qs j i k p at one known

-- those of one name are found
pub known-set : (t : Tallied) (ns : List Named) (ks : List AttrSet) (ps : List Places) (j : ℕ) (k : Places) (m : Named) (a : AttrSet)
    → slice_get ns j ≡ Some m → slice_get ks m.set ≡ Some a → AreOf t m.instrument a k → AllKnown t ns ks ps → AllKnown t ns ks (slice_set ps j k)
known-set t ns ks ps j k m a name set one known = λ i p at. set-all Is ps j i k p at one' (known i p)
  where
    Is : ℕ → Places → Type 0
    Is i p = let m = get_or ns i nothing_named in AreOf t m.instrument (get_or ks m.set []) p

    one' : Is j k
    one' =
        subst (λ (x : Named). AreOf t x.instrument (get_or ks x.set []) k) (sym (got ns j m nothing_named name))
        (subst (λ (b : AttrSet). AreOf t m.instrument b k) (sym (got ks m.set a [] set)) one)
