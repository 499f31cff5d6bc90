-- Changes at places, of lists whose values are entries.
use Rattle.std.proofs.Common.{◌≡◌, ℕ, zero, suc, ◌<◌, ◌≤◌, Bool, true, List, [], ◌∷◌, map, length, get_or, Some, refl, ap, subst, ◌∙◌, sym, arith}
use Rattle.std.proofs.lemmas.Bool.{and_parts}
use Rattle.std.specs.List.{list_all}
use Rattle.std.specs.Prelude.{slice_get, slice_set}
use Rattle.gateway_kit.specs.Amending.{with_change}

module _ {A K V C : Type 0} (f : A → K × V) (made : V → C → V) where
  -- a value put at a place
  pub set_with_change : (xs : List A) (i : ℕ) (x y : A) (c : C) → i < length xs → x ≡ get_or xs i x → f y ≡ ((f x).0, made (f x).1 c) → map f (slice_set xs i y) ≡ with_change made (map f xs) i c
  set_with_change [] i x y c h is e = absurd (omega arith)
  set_with_change (z ∷ xs) zero x y c h is e = λ j. (e ∙ ap (λ w. ((f w).0, made (f w).1 c)) is) j ∷ map f xs
  set_with_change (z ∷ xs) (suc i) x y c h is e = ap (λ l. f z ∷ l) (set_with_change xs i x y c (omega arith) is e)

  -- a value that stays as it is
  pub kept_with_change : (xs : List A) (i : ℕ) (x : A) (c : C) → i < length xs → x ≡ get_or xs i x → made (f x).1 c ≡ (f x).1 → map f xs ≡ with_change made (map f xs) i c
  kept_with_change [] i x c h is e = absurd (omega arith)
  kept_with_change (z ∷ xs) zero x c h is e =
      let same : made (f z).1 c ≡ (f z).1 = subst (λ w. made (f w).1 c ≡ (f w).1) is e in
      λ j. ((f z).0, sym same j) ∷ map f xs
  kept_with_change (z ∷ xs) (suc i) x c h is e = ap (λ l. f z ∷ l) (kept_with_change xs i x c (omega arith) is e)

  -- past the end
  pub past_with_change : (xs : List A) (i : ℕ) (c : C) → length xs ≤ i → map f xs ≡ with_change made (map f xs) i c
  past_with_change [] i c h = refl
  past_with_change (z ∷ xs) zero c h = absurd (omega arith)
  past_with_change (z ∷ xs) (suc i) c h = ap (λ l. f z ∷ l) (past_with_change xs i c (omega arith))

-- a value put at a place of which nothing else is seen
pub set_same : {A B : Type 0} (f : A → B) (xs : List A) (i : ℕ) (x y : A) → x ≡ get_or xs i x → f y ≡ f x → map f (slice_set xs i y) ≡ map f xs
set_same f [] i x y is e = refl
set_same f (z ∷ xs) zero x y is e = ap (λ b. b ∷ map f xs) (e ∙ ap f is)
set_same f (z ∷ xs) (suc i) x y is e = ap (λ l. f z ∷ l) (set_same f xs i x y is e)

-- what stands at a place
pub got_map : {A B : Type 0} (f : A → B) (xs : List A) (i : ℕ) (x : A) → i < length xs → x ≡ get_or xs i x → slice_get (map f xs) i ≡ Some (f x)
got_map f [] i x h is = absurd (omega arith)
got_map f (z ∷ xs) zero x h is = ap (λ y. Some (f y)) (sym is)
got_map f (z ∷ xs) (suc i) x h is = got_map f xs i x (omega arith) is

-- of a list whose elements pass a test, one
pub passes_at : {A : Type 0} (test : A → Bool) (xs : List A) (i : ℕ) (x : A) → list_all test xs ≡ true → i < length xs → x ≡ get_or xs i x → test x ≡ true
passes_at test [] i x all h is = absurd (omega arith)
passes_at test (z ∷ xs) zero x all h is = ap test is ∙ (and_parts (test z) (list_all test xs) all).0
passes_at test (z ∷ xs) (suc i) x all h is = passes_at test xs i x ((and_parts (test z) (list_all test xs) all).1) (omega arith) is

-- two readings of one place
pub same_at : {A : Type 0} (xs : List A) (i : ℕ) (x y : A) → i < length xs → x ≡ get_or xs i x → y ≡ get_or xs i y → x ≡ y
same_at [] i x y h p q = absurd (omega arith)
same_at (z ∷ xs) zero x y h p q = p ∙ sym q
same_at (z ∷ xs) (suc i) x y h p q = same_at xs i x y (omega arith) p q
