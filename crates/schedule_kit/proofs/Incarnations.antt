-- All incarnations are listed, each once, and the entries up to a collection are its own.
use Rattle.std.proofs.Common.{◌≡◌, ℕ, zero, suc, ◌+◌, ◌<◌, ◌≤◌, Bool, true, false, cond, ◌==◌, inl, inr, List, [], ◌∷◌, map, length, slice_index, refl, sym, ap, subst, ◌∙◌, arith, add-zero}
use Rattle.std.proofs.lemmas.Bool.{eqb-true, eq-eqb, lt-ltb, le-ltb}
use Rattle.schedule_kit.specs.Schedule.{Act, start_of}
use Rattle.schedule_kit.specs.Schedule.Act.{Measured, Collected, Restarted}
use Rattle.schedule_kit.specs.Deeds.{Deed, Made, acts_of, start_at, entries_at, made, first, AreLawful}
use Rattle.schedule_kit.specs.Deeds.Deed.{Wrote, Delivered, Merged, Sent, Handed}
use Rattle.schedule_kit.specs.Members.{In, Once}
use Rattle.schedule_kit.specs.Taken.{incarnations_from, incarnations}
use Rattle.schedule_kit.proofs.Members.{map-In}

setup_in : (k : ℕ) (xs : List ℕ) (i : ℕ) → i < length xs → In {A = ℕ × ℕ} (k + i, slice_index xs i) (incarnations_from k xs)
setup_in k [] i h = absurd (omega arith)
setup_in k (x ∷ xs) zero h = inl (λ n. (add-zero k n, x))
setup_in k (x ∷ xs) (suc i) h =
    let moved : suc k + i ≡ k + suc i = omega arith in
    inr (subst (λ (v : ℕ). In {A = ℕ × ℕ} (v, slice_index xs i) (incarnations_from (suc k) xs)) moved (setup_in (suc k) xs i (omega arith)))

-- a listed writer is one of those listed
from_least : (k : ℕ) (xs : List ℕ) (p : ℕ × ℕ) → In p (incarnations_from k xs) → (k ≤ p.0) × (p.0 < k + length xs)
from_least k [] p h = absurd h
from_least k (x ∷ xs) p (inl e) = let a : p.0 ≡ k = ap (λ (q : ℕ × ℕ). q.0) e in (omega arith, omega arith)
from_least k (x ∷ xs) p (inr h) = let r = from_least (suc k) xs p h in let a = r.0 in let b = r.1 in (omega arith, omega arith)

module _ {I : Type 0} (who : ℕ → I) where
  from_once : (n : ℕ) → ((v w : ℕ) → v < n → w < n → who v ≡ who w → v ≡ w) → (k : ℕ) (xs : List ℕ) → k + length xs ≤ n → Once {A = I × ℕ} (map (λ i. (who i.0, i.1)) (incarnations_from k xs))
  from_once n distinct k [] h = tt
  from_once n distinct k (x ∷ xs) h = (
    λ i. let r = map-In {A = ℕ × ℕ} (λ i. (who i.0, i.1)) (who k, x) (incarnations_from (suc k) xs) i in
        let b = from_least (suc k) xs r.0 r.1 in
        let low = b.0 in let high = b.1 in
        let same : k ≡ r.0.0 = distinct k r.0.0 (omega arith) (omega arith) (ap (λ (q : I × ℕ). q.0) r.2) in
        omega arith,
    from_once n distinct (suc k) xs (omega arith),
  )

-- recordings and collections leave the start
start_measured : {N : Type 0} (b : Bool) (f : ℕ) (x : N) (acts : List (Act N)) → start_of f (cond b (Measured x ∷ acts) acts) ≡ start_of f acts
start_measured true f x acts = refl
start_measured false f x acts = refl

start_collected : {N : Type 0} (b : Bool) (f time : ℕ) (closing : Bool) (acts : List (Act N)) → start_of f (cond b (Collected time closing ∷ acts) acts) ≡ start_of f acts
start_collected true f time closing acts = refl
start_collected false f time closing acts = refl

start_restarted : {N : Type 0} (b : Bool) (f start : ℕ) (acts : List (Act N)) → start_of f (cond b (Restarted start ∷ acts) acts) ≡ cond b start (start_of f acts)
start_restarted true f start acts = refl
start_restarted false f start acts = refl

module _ {N : Type 0} (starts : List ℕ) where
  -- the running incarnation of a writer that exists
  pub running_in : (ds : List (Deed N)) (w : ℕ) → w < length starts → In {A = ℕ × ℕ} (w, start_at starts ds w) (incarnations starts ds)
  running_in [] w h = let at : 0 + w ≡ w = omega arith in subst (λ (v : ℕ). In {A = ℕ × ℕ} (v, slice_index starts w) (incarnations_from 0 starts)) at (setup_in 0 starts w h)
  running_in (Wrote v (Measured x) ∷ ds) w h =
      subst (λ (t : ℕ). In {A = ℕ × ℕ} (w, t) (incarnations starts ds)) (sym (start_measured (v == w) (slice_index starts w) x (acts_of w ds))) (running_in ds w h)
  running_in (Wrote v (Collected time closing) ∷ ds) w h =
      subst (λ (t : ℕ). In {A = ℕ × ℕ} (w, t) (incarnations starts ds)) (sym (start_collected (v == w) (slice_index starts w) time closing (acts_of w ds))) (running_in ds w h)
  running_in (Wrote v (Restarted start) ∷ ds) w h =
      subst (λ (t : ℕ). In {A = ℕ × ℕ} (w, t) ((v, start) ∷ incarnations starts ds)) (sym (start_restarted (v == w) (slice_index starts w) start (acts_of w ds)))
      (elim (v == w) as (λ b. (v == w) ≡ b → In {A = ℕ × ℕ} (w, cond b start (start_at starts ds w)) ((v, start) ∷ incarnations starts ds)) [
        | true ↦ λ e. inl (λ n. (sym (eqb-true v w e) n, start))
        | false ↦ λ e. inr (running_in ds w h)
      ] refl)
  running_in (_ ∷ ds) w h = running_in ds w h

  module _ (fits : ℕ → List N → N → Bool) (gateways : ℕ) where
    -- that of every collection
    pub made_in : (ds : List (Deed N)) → AreLawful fits starts gateways ds → (m : Made N) → In m (made starts ds) → In {A = ℕ × ℕ} (m.writer, m.start) (incarnations starts ds)
    made_in [] l m i = absurd i
    made_in (Wrote w (Restarted start) ∷ ds) l m i = inr (made_in ds l.1 m i)
    made_in (Wrote w (Collected time closing) ∷ ds) l m (inl e) = let P : Made N → Type 0 = λ x. In {A = ℕ × ℕ} (x.writer, x.start) (incarnations starts ds) in subst P (sym e) (running_in ds w l.0.0)
    made_in (Wrote w (Collected time closing) ∷ ds) l m (inr i) = made_in ds l.1 m i
    made_in (Wrote w (Measured x) ∷ ds) l m i = made_in ds l.1 m i
    made_in (_ ∷ ds) l m i = made_in ds l.1 m i

    -- a listed incarnation began by now, of a writer that exists
    pub began : (ds : List (Deed N)) → AreLawful fits starts gateways ds → (p : ℕ × ℕ) → In p (incarnations starts ds) → (p.0 < length starts) × (p.1 ≤ start_at starts ds p.0)
    began [] l p h =
        let r = from_bounds 0 starts p h in
        let b = r.1 in
        let at : r.2 ≡ p.0 = (let c = r.3 in omega arith) in
        let same : p.1 ≡ slice_index starts p.0 = r.4 ∙ ap (slice_index starts) at in
        (omega arith, omega arith)
      where
        from_bounds : (k : ℕ) (xs : List ℕ) (p : ℕ × ℕ) → In p (incarnations_from k xs) → (k ≤ p.0) × (p.0 < k + length xs) × (i : ℕ) × (p.0 ≡ k + i) × (p.1 ≡ slice_index xs i)
        from_bounds k [] p h = absurd h
        from_bounds k (x ∷ xs) p (inl e) = let a : p.0 ≡ k = ap (λ (q : ℕ × ℕ). q.0) e in (omega arith, omega arith, 0, a ∙ sym (add-zero k), ap (λ (q : ℕ × ℕ). q.1) e)
        from_bounds k (x ∷ xs) p (inr h) = let r = from_bounds (suc k) xs p h in let a = r.0 in let b = r.1 in let c = r.3 in (omega arith, omega arith, suc r.2, omega arith, r.4)
    began (Wrote w (Measured x) ∷ ds) l p h = let r = began ds l.1 p h in (r.0, subst (λ (t : ℕ). p.1 ≤ t) (sym (start_measured (w == p.0) (slice_index starts p.0) x (acts_of p.0 ds))) r.1)
    began (Wrote w (Collected time closing) ∷ ds) l p h = let r = began ds l.1 p h in (r.0, subst (λ (t : ℕ). p.1 ≤ t) (sym (start_collected (w == p.0) (slice_index starts p.0) time closing (acts_of p.0 ds))) r.1)
    began (Wrote w (Restarted start) ∷ ds) l p (inl e) =
        let a : w ≡ p.0 = sym (ap (λ (q : ℕ × ℕ). q.0) e) in
        let b : p.1 ≡ start = ap (λ (q : ℕ × ℕ). q.1) e in
        (subst (λ (v : ℕ). v < length starts) a l.0.0, subst (λ (t : ℕ). p.1 ≤ t) (sym (start_restarted (w == p.0) (slice_index starts p.0) start (acts_of p.0 ds))) (rw (eq-eqb w p.0 a) (omega arith)))
    began (Wrote w (Restarted start) ∷ ds) l p (inr h) =
        let r = began ds l.1 p h in
        let low = r.1 in
        let rises : start_at starts ds w < start = l.0.1 in (
          r.0,
          subst (λ (t : ℕ). p.1 ≤ t) (sym (start_restarted (w == p.0) (slice_index starts p.0) start (acts_of p.0 ds))) (elim (w == p.0) as (λ b. (w == p.0) ≡ b → p.1 ≤ cond b start (start_at starts ds p.0)) [
            | true ↦ λ e. let same : start_at starts ds w ≡ start_at starts ds p.0 = ap (start_at starts ds) (eqb-true w p.0 e) in omega arith
            | false ↦ λ e. low
          ] refl),
        )
    began (_ ∷ ds) l p h = began ds l.1 p h

  -- the first n of more deeds
  first_less : (d : Deed N) (ds : List (Deed N)) (n : ℕ) → n ≤ length ds → first n (d ∷ ds) ≡ first n ds
  first_less d ds n h = rw (le-ltb (length ds) n h) refl

  first_all : (ds : List (Deed N)) → first (length ds) ds ≡ ds
  first_all [] = refl
  first_all (d ∷ ds) = rw (lt-ltb (length ds) (suc (length ds)) (omega arith)) refl

  abbrev IsBefore : List (Deed N) → Made N → Type 0
  IsBefore ds m = (m.before ≤ length ds) × (m.entries ≡ entries_at starts (first m.before ds) m.writer m.start)

  is_still_before : (d : Deed N) (ds : List (Deed N)) (m : Made N) → IsBefore ds m → IsBefore (d ∷ ds) m
  is_still_before d ds m h = (omega arith, h.1 ∙ sym (ap (λ l. entries_at starts l m.writer m.start) (first_less d ds m.before h.0)))

  -- a collection has the entries of its incarnation among the deeds before it
  pub entries_before : (ds : List (Deed N)) → (m : Made N) → In m (made starts ds) → (m.before ≤ length ds) × (m.entries ≡ entries_at starts (first m.before ds) m.writer m.start)
  entries_before [] m i = absurd i
  entries_before (Wrote w (Collected time closing) ∷ ds) m (inl e) =
      subst (IsBefore (Wrote w (Collected time closing) ∷ ds)) (sym e)
      (omega arith, sym (ap (λ l. entries_at starts l w (start_at starts ds w)) (first_less (Wrote w (Collected time closing)) ds (length ds) (omega arith) ∙ first_all ds)))
  entries_before (Wrote w (Collected time closing) ∷ ds) m (inr i) = is_still_before (Wrote w (Collected time closing)) ds m (entries_before ds m i)
  entries_before (Wrote w (Measured x) ∷ ds) m i = is_still_before (Wrote w (Measured x)) ds m (entries_before ds m i)
  entries_before (Wrote w (Restarted x) ∷ ds) m i = is_still_before (Wrote w (Restarted x)) ds m (entries_before ds m i)
  entries_before (Delivered x g ∷ ds) m i = is_still_before (Delivered x g) ds m (entries_before ds m i)
  entries_before (Merged x g ∷ ds) m i = is_still_before (Merged x g) ds m (entries_before ds m i)
  entries_before (Sent x g ∷ ds) m i = is_still_before (Sent x g) ds m (entries_before ds m i)
  entries_before (Handed x g b ∷ ds) m i = is_still_before (Handed x g b) ds m (entries_before ds m i)

  -- each is listed once, also by identity where no two writers share one
  module _ {I : Type 0} (who : ℕ → I) where
    pub incarnations_once : ((v w : ℕ) → v < length starts → w < length starts → who v ≡ who w → v ≡ w) → (fits : ℕ → List N → N → Bool) (gateways : ℕ) (ds : List (Deed N)) → AreLawful fits starts gateways ds → Once {A = I × ℕ} (map (λ i. (who i.0, i.1)) (incarnations starts ds))
    incarnations_once distinct fits gateways [] l = from_once who (length starts) distinct 0 starts (omega arith)
    incarnations_once distinct fits gateways (Wrote w (Restarted start) ∷ ds) l = (
      λ i. let r = map-In {A = ℕ × ℕ} (λ i. (who i.0, i.1)) (who w, start) (incarnations starts ds) i in
          let b = began fits gateways ds l.1 r.0 r.1 in
          let low = b.1 in
          let same : w ≡ r.0.0 = distinct w r.0.0 l.0.0 b.0 (ap (λ (q : I × ℕ). q.0) r.2) in
          let start_same : start ≡ r.0.1 = ap (λ (q : I × ℕ). q.1) r.2 in
          let rises : start_at starts ds w < start = l.0.1 in
          let at : start_at starts ds w ≡ start_at starts ds r.0.0 = ap (start_at starts ds) same in
          omega arith,
      incarnations_once distinct fits gateways ds l.1,
    )
    incarnations_once distinct fits gateways (Wrote w (Measured x) ∷ ds) l = incarnations_once distinct fits gateways ds l.1
    incarnations_once distinct fits gateways (Wrote w (Collected time closing) ∷ ds) l = incarnations_once distinct fits gateways ds l.1
    incarnations_once distinct fits gateways (_ ∷ ds) l = incarnations_once distinct fits gateways ds l.1
