-- The first of several reasons why threads stopped.
use Rattle.std.proofs.Common.{◌≡◌, ◌⊎◌, inl, inr, ℕ, ◌<◌, ◌≤◌, ◌==◌, ◌&&◌, ◌||◌, Bool, true, false, true≢false, List, [], ◌∷◌, ◌++◌, Option, Some, None, refl, sym, ap, subst, ◌∙◌, arith}
use Rattle.std.specs.Prelude.{if◌then◌else◌, is_err, is_ok, map, nat_lt, IfNone, Result, Ok, Err}
use mathlib.Core.List.{map-append}
use Rattle.std.proofs.lemmas.Bool.{and_cases, and_left, and_right, cases_lt, eqb-false, le-ltb, ltb-false, ne_eqb, or_from, or_parts}
use mathlib.Core.Logic.{dite}
use native.Mathlib.Decide.{ℕ_discrete}
use Rattle.schedule_kit.proofs.Members.{In-append, In-left, In-right}
use Rattle.schedule_kit.specs.Members.{In}
use Rattle.fleet_kit.proofs.Lists.{if_none}
use Rattle.fleet_kit.specs.Halts.{is_before, rank, IsFirst}
use Rattle.fleet_kit.specs.declared.halt.Halt.{Halt}
use Rattle.fleet_kit.specs.declared.halt.Halt.TheVariants.{GateShut, Refused, NoThread, Missing, NoMemory}

abbrev before : ℕ × ℕ → ℕ × ℕ → Bool
before p q = nat_lt p.0 q.0 || (p.0 == q.0 && nat_lt p.1 q.1)

-- what it tells that one does not come before another
tells : (p q : ℕ × ℕ) → before p q ≡ false → (q.0 < p.0) ⊎ ((p.0 ≡ q.0) × (q.1 ≤ p.1))
tells p q e =
    let parts = or_parts (nat_lt p.0 q.0) (p.0 == q.0 && nat_lt p.1 q.1) e in
    let least : q.0 ≤ p.0 = ltb-false p.0 q.0 parts.0 in
    dite (ℕ_discrete p.0 q.0)
    (λ (same : p.0 ≡ q.0). inr (same, elim (and_cases (p.0 == q.0) (nat_lt p.1 q.1) parts.1) [ inl other ↦ absurd (eqb-false p.0 q.0 other same) | inr less ↦ ltb-false p.1 q.1 less ]))
    (λ other. inl (omega (arith, least, other)))

-- and how it is shown
shown : (p q : ℕ × ℕ) → (q.0 < p.0) ⊎ ((p.0 ≡ q.0) × (q.1 ≤ p.1)) → before p q ≡ false
shown p q (inl less) = or_from _ _ (le-ltb p.0 q.0 (omega (arith, less))) (and_left _ _ (ne_eqb p.0 q.0 (λ same. omega (arith, less, same))))
shown p q (inr h) = let same = h.0 in or_from _ _ (le-ltb p.0 q.0 (omega (arith, same))) (and_right _ _ (le-ltb p.1 q.1 h.1))

-- nothing comes before itself
pub self : (h : Halt) → is_before h h ≡ false
self h = shown (rank h) (rank h) (inr (refl, omega arith))

-- of two, not each comes before the other
turned : (p q : ℕ × ℕ) → before p q ≡ true → before q p ≡ false
turned p q e = shown q p (dite (ℕ_discrete q.0 p.0)
    (λ (same : q.0 ≡ p.0). inr (same, elim (cases_lt q.1 p.1) [ inl less ↦ absurd (true≢false (sym e ∙ shown p q (inr (sym same, omega (arith, less))))) | inr least ↦ least ]))
    (λ other. inl (elim (cases_lt p.0 q.0) [ inl less ↦ less | inr least ↦ absurd (true≢false (sym e ∙ shown p q (inl (omega (arith, least, other))))) ])))

-- what comes after the first of all does not come before it
pub further : (p q r : ℕ × ℕ) → before p q ≡ false → before q r ≡ false → before p r ≡ false
further p q r d e = shown p r (elim (tells p q d) [
  | inl less ↦ elim (tells q r e) [ inl more ↦ inl (omega (arith, less, more)) | inr more ↦ let s = more.0 in inl (omega (arith, less, s)) ]
  | inr less ↦ let s = less.0 in let n = less.1 in elim (tells q r e) [ inl more ↦ inl (omega (arith, s, more)) | inr more ↦ let t = more.0 in let m = more.1 in inr (omega (arith, s, t), omega (arith, n, m)) ]
])

some_same : (a b : Halt) → Some a ≡ Some b → a ≡ b
some_same a b e = cc

none_some : (h : Halt) → None ≡ Some h → ⊥
none_some h e = cc e

-- of two, of one and of none
pub first_both : (p q : Option Halt) (a b : Halt) → p ≡ Some a → q ≡ Some b → is_before b a ≡ true → IsFirst (λ h. (p ≡ Some h) ⊎ (q ≡ Some h)) (Some b)
first_both p q a b d e before = (
  inr e,
  λ x were. elim were [
    | inl is ↦ subst (λ h. is_before h b ≡ false) (some_same a x (sym d ∙ is)) (turned (rank b) (rank a) before)
    | inr is ↦ subst (λ h. is_before h b ≡ false) (some_same b x (sym e ∙ is)) (self b)
  ],
)

pub first_kept : (p q : Option Halt) (a b : Halt) → p ≡ Some a → q ≡ Some b → is_before b a ≡ false → IsFirst (λ h. (p ≡ Some h) ⊎ (q ≡ Some h)) (Some a)
first_kept p q a b d e before = (
  inl d,
  λ x were. elim were [
    | inl is ↦ subst (λ h. is_before h a ≡ false) (some_same a x (sym d ∙ is)) (self a)
    | inr is ↦ subst (λ h. is_before h a ≡ false) (some_same b x (sym e ∙ is)) before
  ],
)

pub first_left : (p q : Option Halt) (a : Halt) → p ≡ Some a → q ≡ None → IsFirst (λ h. (p ≡ Some h) ⊎ (q ≡ Some h)) (Some a)
first_left p q a d e = (inl d, λ x were. elim were [ inl is ↦ subst (λ h. is_before h a ≡ false) (some_same a x (sym d ∙ is)) (self a) | inr is ↦ absurd (none_some x (sym e ∙ is)) ])

pub first_right : (p q : Option Halt) (a : Halt) → p ≡ None → q ≡ Some a → IsFirst (λ h. (p ≡ Some h) ⊎ (q ≡ Some h)) (Some a)
first_right p q a d e = (inr e, λ x were. elim were [ inl is ↦ absurd (none_some x (sym d ∙ is)) | inr is ↦ subst (λ h. is_before h a ≡ false) (some_same a x (sym e ∙ is)) (self a) ])

pub first_none : (p q : Option Halt) → p ≡ None → q ≡ None → IsFirst (λ h. (p ≡ Some h) ⊎ (q ≡ Some h)) None
first_none p q d e x were = elim were [ inl is ↦ none_some x (sym d ∙ is) | inr is ↦ none_some x (sym e ∙ is) ]

module _ (were more : Halt → Type 0) where
  -- of all those that there were and a new one
  pub first_more : (new old told : Option Halt) → IsFirst were old → ((h : Halt) → more h → (were h) ⊎ (new ≡ Some h)) → ((h : Halt) → were h → more h) → ((h : Halt) → new ≡ Some h → more h)
      → IsFirst (λ h. (old ≡ Some h) ⊎ (new ≡ Some h)) told → IsFirst more told
  first_more new None None first split keeps fresh is = λ h m. elim (split h m) [ inl w ↦ first h w | inr n ↦ is h (inr n) ]
  first_more new None (Some t) first split keeps fresh is = (
    elim is.0 [ inl w ↦ absurd (none_some t w) | inr n ↦ fresh t n ],
    λ x m. elim (split x m) [ inl w ↦ absurd (first x w) | inr n ↦ is.1 x (inr n) ],
  )
  first_more new (Some o) None first split keeps fresh is = λ h m. is o (inl refl)
  first_more new (Some o) (Some t) first split keeps fresh is = (
    elim is.0 [ inl w ↦ keeps t (subst were (some_same o t w) first.0) | inr n ↦ fresh t n ],
    λ x m. elim (split x m) [ inl w ↦ further (rank x) (rank o) (rank t) (first.1 x w) (is.1 o (inl refl)) | inr n ↦ is.1 x (inr n) ],
  )

-- one more fault is looked at
pub first_joined : (fault old told : Option Halt) (before : List (Option Halt)) → IsFirst (λ h. (old ≡ Some h) ⊎ (fault ≡ Some h)) told → IsFirst (λ h. In (Some h) before) old
    → IsFirst (λ h. In (Some h) (before ++ fault ∷ [])) told
first_joined fault old told before is first =
    first_more (λ h. In (Some h) before) (λ h. In (Some h) (before ++ fault ∷ [])) fault old told first
    (λ h i. elim (In-append (Some h) before (fault ∷ []) i) [ inl w ↦ inl w | inr new ↦ elim new [ inl e ↦ inr (sym e) | inr none ↦ absurd none ] ])
    (λ h w. In-left (Some h) before (fault ∷ []) w) (λ h e. In-right (Some h) before (fault ∷ []) (inl (sym e))) is

-- want of memory comes before none
last : (h : Halt) → is_before NoMemory h ≡ false
last (GateShut job) = refl
last (Refused job entry) = refl
last NoThread = refl
last (Missing gateway writer) = refl
last NoMemory = refl

-- what is told of results: none where none stopped short, else the first reason, of which want of memory may be one
abbrev pub IsToldOf : {T : Type 0} → List (Result T Halt) → Option Halt → Type 0
IsToldOf results None = IsFirst (λ h. In (Err h) results) None
IsToldOf results (Some told) = IsFirst (λ h. In (Err h) results ⊎ (h ≡ NoMemory)) (Some told)

module _ {T : Type 0} (results more : List (Result T Halt)) (new : Halt) where
  -- one more reason
  pub told_more : ((h : Halt) → In (Err h) more → In (Err h) results ⊎ (h ≡ new)) → ((h : Halt) → In (Err h) results → In (Err h) more) → In (Err new) more ⊎ (new ≡ NoMemory)
      → (old told : Option Halt) → IsFirst (λ h. (old ≡ Some h) ⊎ (Some new ≡ Some h)) told → IsToldOf results old → IsToldOf more told
  told_more split keeps fresh old None is first = absurd (is new (inr refl))
  told_more split keeps fresh None (Some t) is first = (
    elim is.0 [ inl e ↦ absurd (none_some t e) | inr e ↦ subst (λ h. In (Err h) more ⊎ (h ≡ NoMemory)) (some_same new t e) fresh ],
    λ x m. elim m [
      | inl i ↦ elim (split x i) [ inl w ↦ absurd (first x w) | inr e ↦ is.1 x (inr (ap Some (sym e))) ]
      | inr e ↦ subst (λ h. is_before h t ≡ false) (sym e) (last t)
    ],
  )
  told_more split keeps fresh (Some o) (Some t) is first = (
    elim is.0 [
      | inl e ↦ elim first.0 [ inl w ↦ inl (keeps t (subst (λ h. In (Err h) results) (some_same o t e) w)) | inr m ↦ inr (sym (some_same o t e) ∙ m) ]
      | inr e ↦ subst (λ h. In (Err h) more ⊎ (h ≡ NoMemory)) (some_same new t e) fresh
    ],
    λ x m. elim m [
      | inl i ↦ elim (split x i) [ inl w ↦ further (rank x) (rank o) (rank t) (first.1 x (inl w)) (is.1 o (inl refl)) | inr e ↦ is.1 x (inr (ap Some (sym e))) ]
      | inr e ↦ subst (λ h. is_before h t ≡ false) (sym e) (last t)
    ],
  )

module _ {T : Type 0} (results : List (Result T Halt)) where
  -- one more answer
  not_ok : (a : T) (h : Halt) → In (Err h) (Ok a ∷ []) → ⊥
  not_ok a h (inl e) = cc e
  not_ok a h (inr none) = none

  err_same : (a b : Halt) (x y : Result T Halt) → x ≡ Err a → y ≡ Err b → x ≡ y → a ≡ b
  err_same a b x y p q e = cc (p, q, e)

  pub told_ok : (a : T) (told : Option Halt) → IsToldOf results told → IsToldOf (results ++ Ok a ∷ []) told
  told_ok a None first = λ h i. elim (In-append (Err h) results (Ok a ∷ []) i) [ inl old ↦ first h old | inr new ↦ not_ok a h new ]
  told_ok a (Some t) first = (
    elim first.0 [ inl w ↦ inl (In-left (Err t) results (Ok a ∷ []) w) | inr m ↦ inr m ],
    λ x m. elim m [
      | inl i ↦ elim (In-append (Err x) results (Ok a ∷ []) i) [ inl old ↦ first.1 x (inl old) | inr new ↦ absurd (not_ok a x new) ]
      | inr e ↦ first.1 x (inr e)
    ],
  )

  -- one more answer, for which memory was wanting
  pub told_full : (a : T) (old told : Option Halt) → IsFirst (λ h. (old ≡ Some h) ⊎ (Some NoMemory ≡ Some h)) told → IsToldOf results old → IsToldOf (results ++ Ok a ∷ []) told
  told_full a old told is first =
      told_more results (results ++ Ok a ∷ []) NoMemory (λ h i. elim (In-append (Err h) results (Ok a ∷ []) i) [ inl w ↦ inl w | inr new ↦ absurd (not_ok a h new) ]) (λ h w. In-left (Err h) results (Ok a ∷ []) w) (inr refl) old
      told is first

  -- one more that stopped short
  pub told_err : (e : Halt) (old told : Option Halt) → IsFirst (λ h. (old ≡ Some h) ⊎ (Some e ≡ Some h)) told → IsToldOf results old → IsToldOf (results ++ Err e ∷ []) told
  told_err e old told is first =
      told_more results (results ++ Err e ∷ []) e
      (λ h i. elim (In-append (Err h) results (Err e ∷ []) i) [ inl w ↦ inl w | inr new ↦ elim new [ inl same ↦ inr (err_same h e (Err h) (Err e) refl refl same) | inr none ↦ absurd none ] ])
      (λ h w. In-left (Err h) results (Err e ∷ []) w) (inl (In-right (Err e) results (Err e ∷ []) (inl refl))) old told is first

-- the answers so far, where none stopped short
pub answers_more : {T : Type 0} (told : Option Halt) (answers more : List T) (results : List (Result T Halt)) (a : T) (r : Result T Halt) → r ≡ Ok a → more ≡ answers ++ a ∷ [] → (told ≡ None → map Ok answers ≡ results)
    → told ≡ None → map Ok more ≡ results ++ r ∷ []
answers_more {T} told answers more results a r is new kept none =
    let ok : T → Result T Halt = λ x. Ok x in
    ap (map ok) new ∙ map-append ok answers (a ∷ []) ∙ ap (λ l. l ++ ok a ∷ []) (kept none) ∙ ap (λ x. results ++ x ∷ []) (sym is)

-- where a reason is one of two, one is told
pub not_none : (p q told : Option Halt) (h : Halt) → q ≡ Some h → IfNone told ((p ≡ None) × (q ≡ None)) → told ≡ None → ⊥
not_none p q told h is both none = let r = if_none told ((p ≡ None) × (q ≡ None)) none both in none_some h (sym r.1 ∙ is)

-- what a list is that an answer was put into
pub pushed : {A E T : Type 0} (r : Result A E) (xs ys zs : List T) → is_err r ≡ false → zs ≡ (if is_ok r then xs else ys) → zs ≡ xs
pushed (Ok a) xs ys zs e is = is
pushed (Err x) xs ys zs e is = absurd (true≢false e)
