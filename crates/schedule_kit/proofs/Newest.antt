-- The newest collection of an incarnation.
use Rattle.std.proofs.Common.{◌≡◌, ℕ, ◌≤◌, Bool, true, false, cond, ◌&&◌, ◌==◌, inl, inr, List, [], ◌∷◌, Option, Some, None, refl, sym, ap, subst, ◌∙◌, arith}
use mathlib.Core.Bool.{true≢false}
use Rattle.std.proofs.lemmas.Bool.{and_parts, eqb-true, eq-eqb, lt-ltb, le-ltb, cases_lt}
use Rattle.schedule_kit.specs.Deeds.{Made}
use Rattle.schedule_kit.specs.Taken.{newest, later}
use Rattle.schedule_kit.specs.Members.{In}

-- n is the collection of w and start with the greatest time, where there is one
abbrev pub NewestIs : {N : Type 0} → List (Made N) → ℕ → ℕ → Option (Made N) → Type 0
NewestIs {N} ms w start None = (m : Made N) → In m ms → m.writer ≡ w → m.start ≡ start → ⊥
NewestIs {N} ms w start (Some n) = In n ms × (n.writer ≡ w) × (n.start ≡ start) × ((m : Made N) → In m ms → m.writer ≡ w → m.start ≡ start → m.time ≤ n.time)

no_other : {N : Type 0} → (m x : Made N) (w start : ℕ) → ((m.writer == w) && (m.start == start)) ≡ false → x ≡ m → x.writer ≡ w → x.start ≡ start → ⊥
no_other {N} m x w start f e p q = true≢false (sym (rw (eq-eqb m.writer w (sym (ap (λ (y : Made N). y.writer) e) ∙ p), eq-eqb m.start start (sym (ap (λ (y : Made N). y.start) e) ∙ q)) refl) ∙ f)

skip : {N : Type 0} → (m : Made N) (ms : List (Made N)) (w start : ℕ) (o : Option (Made N)) → ((m.writer == w) && (m.start == start)) ≡ false → NewestIs ms w start o → NewestIs (m ∷ ms) w start o
skip {N} m ms w start None f h = λ x i p q. elim i [ inl e ↦ no_other m x w start f e p q | inr j ↦ h x j p q ]
skip {N} m ms w start (Some n) f h = (inr h.0, h.1, h.2, λ x i p q. elim i [ inl e ↦ absurd (no_other m x w start f e p q) | inr j ↦ h.3 x j p q ])

add : {N : Type 0} → (m : Made N) (ms : List (Made N)) (w start : ℕ) (o : Option (Made N)) → m.writer ≡ w → m.start ≡ start → NewestIs ms w start o → NewestIs (m ∷ ms) w start (Some (later m o))
add {N} m ms w start None a b h = (inl refl, a, b, λ x i p q. elim i [ inl e ↦ let t : x.time ≡ m.time = ap (λ (y : Made N). y.time) e in omega arith | inr j ↦ absurd (h x j p q) ])
add {N} m ms w start (Some n) a b h = elim (cases_lt m.time n.time) [
  | inl less ↦ subst (λ (b : Bool). NewestIs (m ∷ ms) w start (Some (cond b n m))) (sym (lt-ltb m.time n.time less)) (inr h.0, h.1, h.2, λ x i p q. elim i [ inl e ↦ let t : x.time ≡ m.time = ap (λ (y : Made N). y.time) e in omega arith | inr j ↦ h.3 x j p q ])
  | inr more ↦ subst (λ (b : Bool). NewestIs (m ∷ ms) w start (Some (cond b n m))) (sym (le-ltb m.time n.time more)) (inl refl, a, b, λ x i p q. elim i [ inl e ↦ let t : x.time ≡ m.time = ap (λ (y : Made N). y.time) e in omega arith | inr j ↦ let u : x.time ≤ n.time = h.3 x j p q in omega arith ])
]

pub newest_is : {N : Type 0} → (ms : List (Made N)) (w start : ℕ) → NewestIs ms w start (newest ms w start)
newest_is {N} [] w start = λ m i p q. i
newest_is {N} (m ∷ ms) w start =
    let rest = newest_is ms w start in
    let test = (m.writer == w) && (m.start == start) in
    elim ((m.writer == w) && (m.start == start)) as (λ b. ((m.writer == w) && (m.start == start)) ≡ b → NewestIs (m ∷ ms) w start (cond b (Some (later m (newest ms w start))) (newest ms w start))) [
      | true ↦ λ e. add m ms w start (newest ms w start) (eqb-true m.writer w ((and_parts (m.writer == w) (m.start == start) e).0)) (eqb-true m.start start ((and_parts (m.writer == w) (m.start == start) e).1)) rest
      | false ↦ λ e. skip m ms w start (newest ms w start) e rest
    ] refl
