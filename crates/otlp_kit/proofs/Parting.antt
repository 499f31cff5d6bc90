-- Runs, of which each has one key and some elements, put back in a row.
use Rattle.std.proofs.Common.{◌≡◌, Bool, true, false, List, [], ◌∷◌, refl, sym, ap, ◌∙◌, subst}
use Rattle.std.specs.List.{AllByRecursion, flat_map}
use Rattle.otlp_kit.specs.Runs.{goes_on, before_runs, runs}

abbrev pub IsRun : {A K : Type 0} → (A → Type 0) → (A → K) → List A → Type 0
IsRun P key [] = ⊥
IsRun P key (x ∷ xs) = AllByRecursion (λ y. P y × (key y ≡ key x)) (x ∷ xs)

pub all_of : {A : Type 0} (P Q : A → Type 0) → ((x : A) → P x → Q x) → (xs : List A) → AllByRecursion P xs → AllByRecursion Q xs
all_of P Q f [] all = _
all_of P Q f (x ∷ xs) all = (f x all.0, all_of P Q f xs all.1)

module _ {A K : Type 0} (P : A → Type 0) (key : A → K) (alike : A → A → Bool) (same : (x y : A) → alike x y ≡ true → key x ≡ key y) where
  -- the first run begins with the first element
  record Headed (x : A) (xs : List A) : Type 0 where
    first : List A
    others : List (List A)
    so : runs alike (x ∷ xs) ≡ (x ∷ first) ∷ others

  headed : (x : A) (xs : List A) → Headed x xs
  headed x [] = record { first = []; others = []; so = refl }
  headed x (y ∷ ys) = by (headed y ys) (alike x y) refl
    where
      by : Headed y ys → (b : Bool) → alike x y ≡ b → Headed x (y ∷ ys)
      by h true e = record { first = y ∷ h.first; others = h.others; so = (λ i. before_runs (e i) x (h.so i)) }
      by h false e = record { first = []; others = runs alike (y ∷ ys); so = ap (λ (b : Bool). before_runs b x (runs alike (y ∷ ys))) e }

  abbrev Hold : List (List A) → Type 0
  Hold rs = AllByRecursion (IsRun P key) rs

  longer : (x y : A) (r : List A) (rs : List (List A)) → P x → key x ≡ key y → Hold ((y ∷ r) ∷ rs) → Hold ((x ∷ y ∷ r) ∷ rs)
  longer x y r rs p e h =
      ((((p, refl), all_of (λ z. P z × (key z ≡ key y)) (λ z. P z × (key z ≡ key x)) (λ z w. (w.0, w.1 ∙ sym e)) (y ∷ r) h.0)), h.1)

  pub runs_hold : (xs : List A) → AllByRecursion P xs → Hold (runs alike xs)
  runs_hold [] all = _
  runs_hold (x ∷ []) all = (((all.0, refl), _), _)
  runs_hold (x ∷ y ∷ ys) all = by (alike x y) refl (runs_hold (y ∷ ys) all.1)
    where
      by : (b : Bool) → alike x y ≡ b → Hold (runs alike (y ∷ ys)) → Hold (runs alike (x ∷ y ∷ ys))
      by true e later =
          let h = headed y ys in
          subst Hold (sym (λ i. before_runs (e i) x (h.so i))) (longer x y h.first h.others all.0 (same x y e) (subst Hold h.so later))
      by false e later = subst Hold (sym (ap (λ (b : Bool). before_runs b x (runs alike (y ∷ ys))) e)) (((all.0, refl), _), later)

-- runs put back in a row
module _ {A : Type 0} (alike : A → A → Bool) where
  pub rejoined : (xs : List A) → flat_map (λ r. r) (runs alike xs) ≡ xs
  rejoined [] = refl
  rejoined (x ∷ xs) = before (goes_on alike x xs) (runs alike xs) ∙ ap (λ (l : List A). x ∷ l) (rejoined xs)
    where
      before : (b : Bool) (rs : List (List A)) → flat_map (λ r. r) (before_runs b x rs) ≡ x ∷ flat_map (λ r. r) rs
      before true [] = refl
      before true (r ∷ rs) = refl
      before false rs = refl
