-- The rounds of writers meet the premises of the laws of schedules.
use Rattle.std.proofs.Common.{◌≡◌, ℕ, ℤ, zero, suc, ◌+◌, Bool, true, false, cond, inl, inr, List, [], ◌∷◌, ◌++◌, map, slice_get, unwrap_or, Some, refl, sym, ap, subst, ◌∙◌, arith}
use Rattle.std.specs.List.{position_from}
use Rattle.std.proofs.lemmas.Iterator.Adapters.{position_from-zero}
use mathlib.Core.Bool.{true≢false}
use Rattle.std.specs.Cmp.{IsEquivalence}
use Rattle.std.proofs.lemmas.List.{map-append}
use Rattle.attr_kit.specs.Exact.{IsExact, exact_pairs}
use Rattle.attr_kit.specs.declared.attr_set.AttrSet.{AttrSet}
use Rattle.agg_kit.proofs.Distinct.{same, itself, has-distinct, once-distinct}
use Rattle.agg_kit.proofs.RoundLaws.{fed_grows}
use Rattle.agg_kit.specs.Entries.{Entry, Arrivals}
use Rattle.agg_kit.specs.Feeding.{set_eq, has_set, distinct, sets_of, fed}
use Rattle.agg_kit.specs.Sound.{AreOnce}
use Rattle.plan_kit.specs.Plans.{Planned, AreApart}
use Rattle.point_kit.proofs.EqualityLaws.{payload_equivalence, payload_exact}
use Rattle.point_kit.proofs.OrderLaws.{key_total, key_exact}
use Rattle.point_kit.specs.contracts.stream.StreamEq.TheImpl.Laws as stream_laws
use Rattle.point_kit.specs.declared.key.Key.{Key}
use Rattle.point_kit.specs.declared.stream.Stream.{Stream}
use Rattle.point_kit.specs.Exact.{exact_streams}
use Rattle.schedule_kit.proofs.Members.{In-append, In-left, In-right, map-In, In-map, any-In, In-any}
use Rattle.schedule_kit.proofs.Recorded.{Once-append, Once-map}
use Rattle.schedule_kit.specs.Members.{In, Once}
use Rattle.schedule_kit.specs.Rounds.{IsSound}
use Rattle.rollup_kit.specs.Naming.{number_of, stream_eq, Name, name_eq, names_from}
use Rattle.rollup_kit.specs.Writers.{Writers, rounding, ArePlans}

-- a test that tells all apart, and finds each equal to itself
equivalence_of : {A : Type 0} (E : A → A → Bool) → ((x : A) → E x x ≡ true) → IsExact E → IsEquivalence E
equivalence_of {A} E own exact = record { refl = own; symm = turned; congr = λ x y z p. ap (λ v. E v z) (exact x y p) }
  where
    turned : (x y : A) → E x y ≡ E y x
    turned x y = elim (E x y) as (λ b. E x y ≡ b → b ≡ E y x) [
      | true ↦ λ e. sym (ap (E y) (exact x y e) ∙ own y)
      | false ↦ λ e. elim (E y x) as (λ b. E y x ≡ b → false ≡ b) [
        | true ↦ λ f. absurd (true≢false (sym (ap (λ v. E v y) (sym (exact y x f)) ∙ own y) ∙ e))
        | false ↦ λ f. refl
      ] refl
    ] refl

names_own : (x : Name) → name_eq x x ≡ true
names_own x = rw (stream_laws.laws-law.refl x.0, itself x.1) refl

names_exact : IsExact name_eq
names_exact = exact_pairs exact_streams same

pub set_equivalence : IsEquivalence set_eq
set_equivalence = equivalence_of set_eq itself same

-- sets that stand once
once_sets : (xs : List AttrSet) → AreOnce xs → Once xs
once_sets [] h = tt
once_sets (a ∷ xs) h = (λ i. true≢false (sym (In-any set_eq set_equivalence same a xs i) ∙ h.0), once_sets xs h.1)

-- a stream of a later name
pub stream_in : (p : Planned) (h : List Entry) (k : ℕ) (ss : List Stream) (x : Name) → In x (names_from p h k ss) → In x.0 ss
stream_in p h k [] x i = absurd i
stream_in p h k (s ∷ ss) x i = elim (In-append x (map (λ a. (s, a)) (distinct (sets_of (fed p k h)))) (names_from p h (k + 1) ss) i) [
  | inl here ↦ let r = map-In (λ (a : AttrSet). (s, a)) x (distinct (sets_of (fed p k h))) here in inl (ap (λ (y : Name). y.0) r.2)
  | inr later ↦ inr (stream_in p h (k + 1) ss x later)
]

names_once : (p : Planned) (h : List Entry) (k : ℕ) (ss : List Stream) → Once ss → Once (names_from p h k ss)
names_once p h k [] o = tt
names_once p h k (s ∷ ss) o =
    Once-append (map (λ a. (s, a)) (distinct (sets_of (fed p k h)))) (names_from p h (k + 1) ss)
    (Once-map (λ (a : AttrSet). (s, a)) (λ a b e. ap (λ (y : Name). y.1) e) (distinct (sets_of (fed p k h))) (once_sets (distinct (sets_of (fed p k h))) (once-distinct (sets_of (fed p k h)))))
    (names_once p h (k + 1) ss o.1)
    (λ x i j. let r = map-In (λ (a : AttrSet). (s, a)) x (distinct (sets_of (fed p k h))) i in
    o.0 (subst (λ (t : Stream). In t ss) (ap (λ (y : Name). y.0) r.2) (stream_in p h (k + 1) ss x j)))

-- where a stream stands
pub placed : (ss : List Stream) (s : Stream) → In s ss → (i : ℕ) × (slice_get ss i ≡ Some s)
placed [] s i = absurd i
placed (t ∷ ss) s (inl e) = (0, ap Some (sym e))
placed (t ∷ ss) s (inr i) = let r = placed ss s i in (suc r.0, r.1)

apart_once : (ss : List Stream) → AreApart ss → Once ss
apart_once [] h = tt
apart_once (s ∷ ss) h = (
  λ i. let r = placed ss s i in let same : 0 ≡ suc r.0 = h 0 (suc r.0) s refl r.1 in omega arith,
  apart_once ss (λ i j t a b. let same : suc i ≡ suc j = h (suc i) (suc j) t a b in omega arith),
)

-- what is fed stays fed
sets_grow : (p : Planned) (h more : List Entry) (k : ℕ) (a : AttrSet) → In a (distinct (sets_of (fed p k h))) → In a (distinct (sets_of (fed p k (h ++ more))))
sets_grow p h more k a i =
    let grown = fed_grows p k h more in
    let has : has_set (sets_of (fed p k h)) a ≡ true = sym (has-distinct (sets_of (fed p k h)) a) ∙ In-any set_eq set_equivalence same a (distinct (sets_of (fed p k h))) i in
    let there : In a (sets_of (fed p k (h ++ more))) = subst (λ (l : Arrivals). In a (sets_of l)) (sym grown.1)
    (subst (λ (l : List AttrSet). In a l) (sym (map-append (λ (x : AttrSet × ℤ). x.0) (fed p k h) grown.0)) (In-left a (sets_of (fed p k h)) (sets_of grown.0) (any-In set_eq set_equivalence same a (sets_of (fed p k h)) has))) in
    any-In set_eq set_equivalence same a (distinct (sets_of (fed p k (h ++ more)))) (has-distinct (sets_of (fed p k (h ++ more))) a ∙ In-any set_eq set_equivalence same a (sets_of (fed p k (h ++ more))) there)

names_grow : (p : Planned) (h more : List Entry) (k : ℕ) (ss : List Stream) (x : Name) → In x (names_from p h k ss) → In x (names_from p (h ++ more) k ss)
names_grow p h more k [] x i = absurd i
names_grow p h more k (s ∷ ss) x i = elim (In-append x (map (λ a. (s, a)) (distinct (sets_of (fed p k h)))) (names_from p h (k + 1) ss) i) [
  | inl here ↦
      let r = map-In (λ (a : AttrSet). (s, a)) x (distinct (sets_of (fed p k h))) here in
      In-left x (map (λ a. (s, a)) (distinct (sets_of (fed p k (h ++ more))))) (names_from p (h ++ more) (k + 1) ss)
      (subst (λ (y : Name). In y (map (λ a. (s, a)) (distinct (sets_of (fed p k (h ++ more)))))) (sym r.2) (In-map (λ (a : AttrSet). (s, a)) r.0 (distinct (sets_of (fed p k (h ++ more)))) (sets_grow p h more k r.0 r.1)))
  | inr later ↦ In-right x (map (λ a. (s, a)) (distinct (sets_of (fed p k (h ++ more))))) (names_from p (h ++ more) (k + 1) ss) (names_grow p h more (k + 1) ss x later)
]

names_none : (p : Planned) (k : ℕ) (ss : List Stream) → names_from p [] k ss ≡ []
unfolding fed
names_none p k [] = refl
names_none p k (s ∷ ss) = names_none p (k + 1) ss

-- so the laws of schedules hold of them
pub rounding_sound : (s : Writers) → ArePlans s → IsSound (rounding s)
rounding_sound s plans = record {
  total = key_total;
  antisymmetric = key_exact;
  equivalence = payload_equivalence;
  exact = payload_exact;
  names_equivalence = equivalence_of name_eq names_own names_exact;
  names_exact = names_exact;
  key_tells = λ i j a b x y e. (ap (λ (k : Key). k.writer) e, ap (λ (k : Key). k.start) e, λ n. ((e n).stream, (e n).attrs));
  none = λ w. names_none (s.plan w) 0 (s.plan w).streams;
  once = λ w h. names_once (s.plan w) h 0 (s.plan w).streams (apart_once (s.plan w).streams (plans w));
  grows = λ w h more x i. names_grow (s.plan w) h more 0 (s.plan w).streams x i;
}

-- a stream's number is its place
number_from : (ss : List Stream) (k : ℕ) → AreApart ss → (i : ℕ) (s : Stream) → slice_get ss i ≡ Some s → position_from (λ t. stream_eq s t) k ss ≡ Some (k + i)
number_from [] k h i s e = cc
number_from (t ∷ ss) k h zero s e =
    let same : t ≡ s = cc e in
    let at : k + 0 ≡ k = omega arith in
    ap (λ b. cond b (Some k) (position_from (λ u. stream_eq s u) (k + 1) ss)) (ap (stream_eq s) same ∙ stream_laws.laws-law.refl s) ∙ ap Some (sym at)
number_from (t ∷ ss) k h (suc i) s e =
    let rest : AreApart ss = λ a b u p q. let same : suc a ≡ suc b = h (suc a) (suc b) u p q in omega arith in
    let at : k + 1 + i ≡ k + suc i = omega arith in
    elim (stream_eq s t) as (λ b. stream_eq s t ≡ b → cond b (Some k) (position_from (λ u. stream_eq s u) (k + 1) ss) ≡ Some (k + suc i)) [
      | true ↦ λ y. let same : suc i ≡ 0 = h (suc i) 0 s e (ap Some (sym (exact_streams s t y))) in absurd (omega arith)
      | false ↦ λ n. number_from ss (k + 1) rest i s e ∙ ap Some at
    ] refl

pub number_is : (p : Planned) → AreApart p.streams → (i : ℕ) (s : Stream) → slice_get p.streams i ≡ Some s → number_of p s ≡ i
number_is p h i s e = ap (λ o. unwrap_or o 0) (position_from-zero (λ t. stream_eq s t) p.streams ∙ number_from p.streams 0 h i s e) ∙ (let none : 0 + i ≡ i = omega arith in none)
