-- The payload of a name is that of the values that feed it.
use Rattle.std.proofs.Common.{◌≡◌, ℕ, ℤ, zero, suc, ◌+◌, true, false, cond, ◌&&◌, inl, inr, List, [], ◌∷◌, ◌++◌, map, filter, slice_get, append-nil, Some, refl, sym, ap, subst, ◌∙◌, arith}
use Rattle.std.proofs.lemmas.Bool.{and_parts}
use Rattle.attr_kit.specs.declared.attr_set.AttrSet.{AttrSet}
use Rattle.agg_kit.proofs.Distinct.{same, has-distinct}
use Rattle.agg_kit.specs.Entries.{Entry, Arrivals}
use Rattle.agg_kit.specs.Feeding.{set_eq, distinct, sets_of, fed}
use Rattle.agg_kit.specs.Rounds.{values_of}
use Rattle.plan_kit.specs.Plans.{Planned, AreApart}
use Rattle.point_kit.specs.contracts.stream.StreamEq.TheImpl.Laws as stream_laws
use Rattle.point_kit.specs.declared.stream.Stream.{Stream}
use Rattle.point_kit.specs.Exact.{exact_streams}
use Rattle.rollup_kit.specs.Recordings.{AreFed, values_under}
use Rattle.schedule_kit.proofs.Members.{In-append, In-left, In-right, map-In, In-map, any-In, In-any}
use Rattle.schedule_kit.specs.Members.{In}
use Rattle.point_kit.specs.declared.writer_id.WriterId.{WriterId}
use Rattle.agg_kit.specs.Payloads.{payload_of}
use Rattle.rollup_kit.proofs.Naming.{number_is, placed, set_equivalence, stream_in}
use Rattle.rollup_kit.specs.Asks.{asks}
use Rattle.rollup_kit.specs.Naming.{Name, key_at, name_eq, names_from, number_of, payload_at, values_from, stream_eq}
use Rattle.rollup_kit.specs.Writers.{Writers, ArePlans, entries_fed, rounding}
use Rattle.rollup_kit.specs.declared.ask.Ask.{Ask}

abbrev in_stream : Stream → AttrSet × ℤ → Name × ℤ
in_stream s v = ((s, v.0), v.1)

under-append : (x : Name) (vs ws : List (Name × ℤ)) → values_under name_eq x (vs ++ ws) ≡ values_under name_eq x vs ++ values_under name_eq x ws
under-append x [] ws = refl
under-append x (v ∷ vs) ws =
    elim (name_eq x v.0) as (λ b. map (λ (p : Name × ℤ). p.1) (cond b (v ∷ filter (λ p. name_eq x p.0) (vs ++ ws)) (filter (λ p. name_eq x p.0) (vs ++ ws)))
    ≡ map (λ (p : Name × ℤ). p.1) (cond b (v ∷ filter (λ p. name_eq x p.0) vs) (filter (λ p. name_eq x p.0) vs)) ++ values_under name_eq x ws) [
      | true ↦ ap (λ l. v.1 ∷ l) (under-append x vs ws)
      | false ↦ under-append x vs ws
    ]

-- of the values of its own stream, those of its set
own_values : (s : Stream) (a : AttrSet) (xs : Arrivals) → values_under name_eq (s, a) (map (in_stream s) xs) ≡ values_of xs a
own_values s a [] = refl
own_values s a (x ∷ xs) =
    ap (λ b. map (λ (p : Name × ℤ). p.1) (cond (b && set_eq a x.0) (in_stream s x ∷ filter (λ p. name_eq (s, a) p.0) (map (in_stream s) xs)) (filter (λ p. name_eq (s, a) p.0) (map (in_stream s) xs)))) (stream_laws.laws-law.refl s)
    ∙ elim (set_eq a x.0) as (λ b. map (λ (p : Name × ℤ). p.1) (cond b (in_stream s x ∷ filter (λ p. name_eq (s, a) p.0) (map (in_stream s) xs)) (filter (λ p. name_eq (s, a) p.0) (map (in_stream s) xs)))
    ≡ map (λ (y : AttrSet × ℤ). y.1) (cond b (x ∷ filter (λ y. set_eq a y.0) xs) (filter (λ y. set_eq a y.0) xs))) [
      | true ↦ ap (λ l. x.1 ∷ l) (own_values s a xs)
      | false ↦ own_values s a xs
    ]

-- of the values of another stream none
other_values : (s t : Stream) (a : AttrSet) (xs : Arrivals) → stream_eq s t ≡ false → values_under name_eq (s, a) (map (in_stream t) xs) ≡ []
other_values s t a [] e = refl
other_values s t a (x ∷ xs) e =
    ap (λ b. map (λ (p : Name × ℤ). p.1) (cond (b && set_eq a x.0) (in_stream t x ∷ filter (λ p. name_eq (s, a) p.0) (map (in_stream t) xs)) (filter (λ p. name_eq (s, a) p.0) (map (in_stream t) xs)))) e
    ∙ other_values s t a xs e

-- streams at other places are others
not_equal : (s t : Stream) → (s ≡ t → ⊥) → stream_eq s t ≡ false
not_equal s t other = elim (stream_eq s t) as (λ b. stream_eq s t ≡ b → b ≡ false) [ true ↦ λ e. absurd (other (exact_streams s t e)) | false ↦ λ e. refl ] refl

module _ (p : Planned) (h : List Entry) where
  no_values : (s : Stream) (a : AttrSet) (k : ℕ) (ss : List Stream) → ((i : ℕ) (t : Stream) → slice_get ss i ≡ Some t → s ≡ t → ⊥) → values_under name_eq (s, a) (values_from p h k ss) ≡ []
  no_values s a k [] apart = refl
  no_values s a k (t ∷ ss) apart =
      under-append (s, a) (map (in_stream t) (fed p k h)) (values_from p h (k + 1) ss)
      ∙ ap (λ l. l ++ values_under name_eq (s, a) (values_from p h (k + 1) ss)) (other_values s t a (fed p k h) (not_equal s t (apart 0 t refl)))
      ∙ no_values s a (k + 1) ss (λ i u e. apart (suc i) u e)

  -- the values of a name are those that feed its stream under its set
  pub values_at : (ss : List Stream) (k : ℕ) → AreApart ss → (i : ℕ) (s : Stream) → slice_get ss i ≡ Some s → (a : AttrSet) → values_under name_eq (s, a) (values_from p h k ss) ≡ values_of (fed p (k + i) h) a
  values_at [] k apart i s e a = cc
  values_at (t ∷ ss) k apart zero s e a =
      let same_stream : t ≡ s = cc e in
      let at : k ≡ k + 0 = omega arith in
      let none : values_under name_eq (s, a) (values_from p h (k + 1) ss) ≡ [] = no_values s a (k + 1) ss (λ j u f same_too. let first : suc j ≡ 0 = apart (suc j) 0 u f (ap Some (same_stream ∙ same_too)) in omega arith) in
      under-append (s, a) (map (in_stream t) (fed p k h)) (values_from p h (k + 1) ss)
      ∙ ap (λ u. values_under name_eq (s, a) (map (in_stream u) (fed p k h)) ++ values_under name_eq (s, a) (values_from p h (k + 1) ss)) same_stream
      ∙ ap (λ l. values_under name_eq (s, a) (map (in_stream s) (fed p k h)) ++ l) none
      ∙ append-nil (values_under name_eq (s, a) (map (in_stream s) (fed p k h)))
      ∙ own_values s a (fed p k h)
      ∙ ap (λ m. values_of (fed p m h) a) at
  values_at (t ∷ ss) k apart (suc i) s e a =
      let rest : AreApart ss = λ j l u q r. let both : suc j ≡ suc l = apart (suc j) (suc l) u q r in omega arith in
      let at : k + 1 + i ≡ k + suc i = omega arith in
      let other : s ≡ t → ⊥ = λ same_stream. let first : suc i ≡ 0 = apart (suc i) 0 s e (ap Some (sym same_stream)) in omega arith in
      under-append (s, a) (map (in_stream t) (fed p k h)) (values_from p h (k + 1) ss)
      ∙ ap (λ l. l ++ values_under name_eq (s, a) (values_from p h (k + 1) ss)) (other_values s t a (fed p k h) (not_equal s t other))
      ∙ values_at ss (k + 1) rest i s e a
      ∙ ap (λ m. values_of (fed p m h) a) at

-- what is fed has a name
pub fed_named : (p : Planned) (h : List Entry) (k : ℕ) (ss : List Stream) (v : Name × ℤ) → In v (values_from p h k ss) → In v.0 (names_from p h k ss)
fed_named p h k [] v i = absurd i
fed_named p h k (s ∷ ss) v i = elim (In-append v (map (in_stream s) (fed p k h)) (values_from p h (k + 1) ss) i) [
  | inl here ↦
      let r = map-In (in_stream s) v (fed p k h) here in
      let set : In r.0.0 (sets_of (fed p k h)) = In-map (λ (x : AttrSet × ℤ). x.0) r.0 (fed p k h) r.1 in
      let once : In r.0.0 (distinct (sets_of (fed p k h))) =
      any-In set_eq set_equivalence same r.0.0 (distinct (sets_of (fed p k h))) (has-distinct (sets_of (fed p k h)) r.0.0 ∙ In-any set_eq set_equivalence same r.0.0 (sets_of (fed p k h)) set) in
      In-left v.0 (map (λ a. (s, a)) (distinct (sets_of (fed p k h)))) (names_from p h (k + 1) ss)
      (subst (λ (y : Name). In y (map (λ a. (s, a)) (distinct (sets_of (fed p k h))))) (sym (ap (λ (w : Name × ℤ). w.0) r.2)) (In-map (λ (a : AttrSet). (s, a)) r.0.0 (distinct (sets_of (fed p k h))) once))
  | inr later ↦ In-right v.0 (map (λ a. (s, a)) (distinct (sets_of (fed p k h)))) (names_from p h (k + 1) ss) (fed_named p h (k + 1) ss v later)
]

module _ (s : Writers) (plans : ArePlans s) (ask : Ask) where
  paid : (w : ℕ) (h : List Entry) (i : WriterId) (start : ℕ) (x : Name) → asks ask (key_at i start x) ≡ true → In x (names_from (s.plan w) h 0 (s.plan w).streams)
      → payload_at (s.plan w) h x ≡ payload_of ask.stream.shape (values_under name_eq x (entries_fed s w h))
  paid w h i start x asked held =
      let plan = (s.plan w) in
      let is : ask.stream ≡ x.0 = exact_streams ask.stream x.0 ((and_parts _ _ asked).0) in
      let at = placed plan.streams x.0 (stream_in plan h 0 plan.streams x held) in
      let number : number_of plan x.0 ≡ at.0 = number_is plan (plans w) at.0 x.0 at.1 in
      let none : at.0 ≡ 0 + at.0 = omega arith in
      ap (λ n. payload_of x.0.shape (values_of (fed plan n h) x.1)) (number ∙ none)
      ∙ ap (λ (t : Stream). payload_of t.shape (values_of (fed plan (0 + at.0) h) x.1)) (sym is)
      ∙ ap (payload_of ask.stream.shape) (sym (values_at plan h plan.streams 0 (plans w) at.0 x.0 at.1 x.1))

  -- what plans' streams are fed
  pub are_fed : AreFed ask (rounding s) (entries_fed s)
  are_fed = record {
    named = λ w h v i. fed_named (s.plan w) h 0 (s.plan w).streams v i;
    payload = paid;
  }
