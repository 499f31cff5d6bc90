-- Of lawful histories: starts and times rise, and entries are only added.
use Rattle.std.proofs.Common.{◌≡◌, ℕ, ◌<◌, ◌≤◌, Bool, true, false, cond, ◌==◌, ◌⊎◌, inl, inr, List, [], ◌∷◌, ◌++◌, slice_index, refl, sym, ap, subst, ◌∙◌, arith, append_assoc}
use Rattle.std.proofs.lemmas.Bool.{eqb-true, eq-eqb, ne_eqb}
use Rattle.std.proofs.lemmas.List.{append-nil}
use Rattle.schedule_kit.specs.Members.{In}
use Rattle.schedule_kit.specs.Schedule.{Act, Collection, start_of, last_of, entries_of, collections, IsAccepted, AreAccepted}
use Rattle.schedule_kit.specs.Schedule.Act.{Measured, Collected, Restarted}
use Rattle.schedule_kit.specs.Deeds.{Deed, Made, acts_of, start_at, entries_at, made, AreLawful}
use Rattle.schedule_kit.specs.Deeds.Deed.{Wrote}

-- ys begins with xs
abbrev pub Extends : {A : Type 0} → List A → List A → Type 0
Extends {A} xs ys = (more : List A) × (ys ≡ xs ++ more)

-- of one writer
module _ {N : Type 0} (first : ℕ) where
  pub start_le_last : (acts : List (Act N)) → start_of first acts ≤ last_of first acts
  start_le_last [] = omega arith
  start_le_last (Measured e ∷ acts) = start_le_last acts
  start_le_last (Collected time closing ∷ acts) = let h = start_le_last acts in omega arith
  start_le_last (Restarted start ∷ acts) = omega arith

  module _ (fits : List N → N → Bool) where
    -- a collection is of an incarnation that began by then
    pub started : (acts : List (Act N)) → AreAccepted fits first acts → (m : Collection N) → In m (collections first acts) → m.start ≤ start_of first acts
    started [] l m i = absurd i
    started (Measured e ∷ acts) l m i = started acts l.1 m i
    started (Collected time closing ∷ acts) l m (inl e) = let same : m.start ≡ start_of first acts = ap (λ (c : Collection N). c.start) e in omega arith
    started (Collected time closing ∷ acts) l m (inr i) = started acts l.1 m i
    started (Restarted start ∷ acts) l m i = let older = started acts l.1 m i in let rises : start_of first acts < start = l.0 in omega arith

    -- of the running incarnation it is at most the last
    pub within : (acts : List (Act N)) → AreAccepted fits first acts → (m : Collection N) → In m (collections first acts) → m.start ≡ start_of first acts → m.time ≤ last_of first acts
    within [] l m i h = absurd i
    within (Measured e ∷ acts) l m i h = within acts l.1 m i h
    within (Collected time closing ∷ acts) l m (inl e) h = let same : m.time ≡ time = ap (λ (c : Collection N). c.time) e in omega arith
    within (Collected time closing ∷ acts) l m (inr i) h = let older = within acts l.1 m i h in omega arith
    within (Restarted start ∷ acts) l m i h = let older = started acts l.1 m i in let rises : start_of first acts < start = l.0 in absurd (omega arith)

    -- nothing was recorded under a start to come
    pub none_yet : (acts : List (Act N)) → AreAccepted fits first acts → (start : ℕ) → start_of first acts < start → entries_of first acts start ≡ []
    none_yet [] l start h = refl
    none_yet (Measured e ∷ acts) l start h = rw (ne_eqb (start_of first acts) start (omega arith)) (none_yet acts l.1 start h)
    none_yet (Collected time closing ∷ acts) l start h = none_yet acts l.1 start h
    none_yet (Restarted s ∷ acts) l start h = let rises : start_of first acts < s = l.0 in none_yet acts l.1 start (omega arith)

  extends_cond : (b : Bool) (xs ys : List N) (e : N) → Extends xs ys → Extends xs (cond b (ys ++ e ∷ []) ys)
  extends_cond true xs ys e h = (h.0 ++ e ∷ [], ap (λ l. l ++ e ∷ []) h.1 ∙ append_assoc xs h.0 (e ∷ []))
  extends_cond false xs ys e h = h

  -- its entries are the first of its incarnation
  pub grows : (acts : List (Act N)) → (m : Collection N) → In m (collections first acts) → Extends m.entries (entries_of first acts m.start)
  grows [] m i = absurd i
  grows (Measured e ∷ acts) m i = extends_cond (start_of first acts == m.start) m.entries (entries_of first acts m.start) e (grows acts m i)
  grows (Collected time closing ∷ acts) m (inl e) = let P : Collection N → Type 0 = λ c. Extends c.entries (entries_of first acts c.start) in subst P (sym e) ([], sym (append-nil _))
  grows (Collected time closing ∷ acts) m (inr i) = grows acts m i
  grows (Restarted start ∷ acts) m i = grows acts m i

-- a collection of a world, as its writer made it
abbrev pub own : {N : Type 0} → Made N → Collection N
own m = record { start = m.start; time = m.time; entries = m.entries }

-- two collections of one incarnation: m came first
abbrev pub IsEarlier : {N : Type 0} → Made N → Made N → Type 0
IsEarlier m n = (m.time < n.time) × Extends m.entries n.entries

module _ {N : Type 0} (starts : List ℕ) where
  -- a collection of a world is one of its writer
  pub made_own : (ds : List (Deed N)) (m : Made N) → In m (made starts ds) → In (own m) (collections (slice_index starts m.writer) (acts_of m.writer ds))
  made_own [] m i = absurd i
  made_own (Wrote w (Measured x) ∷ ds) m i =
      elim (w == m.writer) as (λ b. In (own m) (collections (slice_index starts m.writer) (cond b (Measured x ∷ acts_of m.writer ds) (acts_of m.writer ds)))) [ true ↦ made_own ds m i | false ↦ made_own ds m i ]
  made_own (Wrote w (Collected time closing) ∷ ds) m (inl e) =
      let P : Made N → Type 0 = λ n. In (own n) (collections (slice_index starts n.writer) (cond (w == n.writer) (Collected time closing ∷ acts_of n.writer ds) (acts_of n.writer ds))) in
      subst P (sym e) (rw (eq-eqb w w refl) (inl refl))
  made_own (Wrote w (Collected time closing) ∷ ds) m (inr i) =
      elim (w == m.writer) as (λ b. In (own m) (collections (slice_index starts m.writer) (cond b (Collected time closing ∷ acts_of m.writer ds) (acts_of m.writer ds)))) [ true ↦ inr (made_own ds m i) | false ↦ made_own ds m i ]
  made_own (Wrote w (Restarted start) ∷ ds) m i =
      elim (w == m.writer) as (λ b. In (own m) (collections (slice_index starts m.writer) (cond b (Restarted start ∷ acts_of m.writer ds) (acts_of m.writer ds)))) [ true ↦ made_own ds m i | false ↦ made_own ds m i ]
  made_own (_ ∷ ds) m i = made_own ds m i

  module _ (fits : ℕ → List N → N → Bool) (gateways : ℕ) where
    -- what happened to one writer was accepted
    pub acts_accepted : (ds : List (Deed N)) → AreLawful fits starts gateways ds → (w : ℕ) → AreAccepted (fits w) (slice_index starts w) (acts_of w ds)
    acts_accepted [] l w = tt
    acts_accepted (Wrote v act ∷ ds) l w =
        elim (v == w) as (λ b. (v == w) ≡ b → AreAccepted (fits w) (slice_index starts w) (cond b (act ∷ acts_of w ds) (acts_of w ds))) [
          | true ↦ λ e. (subst (λ (u : ℕ). IsAccepted (fits u) (slice_index starts u) (acts_of u ds) act) (eqb-true v w e) l.0.1, acts_accepted ds l.1 w)
          | false ↦ λ e. acts_accepted ds l.1 w
        ] refl
    acts_accepted (_ ∷ ds) l w = acts_accepted ds l.1 w

    -- an older collection of the incarnation that is collected now
    newer : (ds : List (Deed N)) (w time : ℕ) → AreLawful fits starts gateways ds → last_of (slice_index starts w) (acts_of w ds) < time → (m n : Made N)
        → m.writer ≡ w → m.start ≡ start_at starts ds w → m.time ≡ time → m.entries ≡ entries_at starts ds w (start_at starts ds w) → In n (made starts ds) → m.writer ≡ n.writer → m.start ≡ n.start → IsEarlier n m
    newer ds w time l rises m n mw ms mt me i same_writer same_start =
        let here : n.writer ≡ w = sym same_writer ∙ mw in
        let start_here : n.start ≡ start_at starts ds w = sym same_start ∙ ms in
        let its = made_own ds n i in
        let at_most = within (slice_index starts n.writer) (fits n.writer) (acts_of n.writer ds) (acts_accepted ds l n.writer) (own n) its (start_here ∙ ap (start_at starts ds) (sym here)) in
        let last_same : last_of (slice_index starts n.writer) (acts_of n.writer ds) ≡ last_of (slice_index starts w) (acts_of w ds) = ap (λ v. last_of (slice_index starts v) (acts_of v ds)) here in
        let front = grows (slice_index starts n.writer) (acts_of n.writer ds) (own n) its in
        (omega arith, (front.0, me ∙ ap (λ v. entries_at starts ds v (start_at starts ds w)) (sym here) ∙ ap (entries_at starts ds n.writer) (sym start_here) ∙ front.1))

    -- two collections of one incarnation are one, or one came first
    pub in_order : (ds : List (Deed N)) → AreLawful fits starts gateways ds → (m n : Made N) → In m (made starts ds) → In n (made starts ds) → m.writer ≡ n.writer → m.start ≡ n.start → (m ≡ n) ⊎ (IsEarlier m n ⊎ IsEarlier n m)
    in_order [] l m n i j w t = absurd i
    in_order (Wrote v (Collected time closing) ∷ ds) l m n (inl e) (inl f) w t = inl (e ∙ sym f)
    in_order (Wrote v (Collected time closing) ∷ ds) l m n (inl e) (inr j) w t =
        inr (inr (newer ds v time l.1 l.0.1.1 m n (ap (λ (x : Made N). x.writer) e) (ap (λ (x : Made N). x.start) e) (ap (λ (x : Made N). x.time) e) (ap (λ (x : Made N). x.entries) e) j w t))
    in_order (Wrote v (Collected time closing) ∷ ds) l m n (inr i) (inl f) w t =
        inr (inl (newer ds v time l.1 l.0.1.1 n m (ap (λ (x : Made N). x.writer) f) (ap (λ (x : Made N). x.start) f) (ap (λ (x : Made N). x.time) f) (ap (λ (x : Made N). x.entries) f) i (sym w) (sym t)))
    in_order (Wrote v (Collected time closing) ∷ ds) l m n (inr i) (inr j) w t = in_order ds l.1 m n i j w t
    in_order (Wrote v (Measured x) ∷ ds) l m n i j w t = in_order ds l.1 m n i j w t
    in_order (Wrote v (Restarted start) ∷ ds) l m n i j w t = in_order ds l.1 m n i j w t
    in_order (_ ∷ ds) l m n i j w t = in_order ds l.1 m n i j w t
