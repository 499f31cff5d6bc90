-- Members of lists.
use Rattle.std.proofs.Common.{◌≡◌, Bool, true, false, cond, ◌||◌, ◌⊎◌, inl, inr, List, [], ◌∷◌, ◌++◌, map, filter, Option, Some, None, refl, sym, ap, subst, ◌∙◌}
use mathlib.Core.Bool.{true≢false}
use Rattle.std.specs.List.{flat_map, list_any, find, filter_map, cons_option}
use Rattle.std.specs.Cmp.{IsEquivalence}
use Rattle.attr_kit.specs.Exact.{IsExact}
use Rattle.schedule_kit.specs.Members.{In}

module _ {A : Type 0} where
  pub In-left : (y : A) (xs ys : List A) → In y xs → In y (xs ++ ys)
  In-left y [] ys h = absurd h
  In-left y (x ∷ xs) ys (inl e) = inl e
  In-left y (x ∷ xs) ys (inr h) = inr (In-left y xs ys h)

  pub In-right : (y : A) (xs ys : List A) → In y ys → In y (xs ++ ys)
  In-right y [] ys h = h
  In-right y (x ∷ xs) ys h = inr (In-right y xs ys h)

  pub In-append : (y : A) (xs ys : List A) → In y (xs ++ ys) → In y xs ⊎ In y ys
  In-append y [] ys h = inr h
  In-append y (x ∷ xs) ys (inl e) = inl (inl e)
  In-append y (x ∷ xs) ys (inr h) = elim (In-append y xs ys h) [ inl a ↦ inl (inr a) | inr b ↦ inr b ]

  pub filter-In : (p : A → Bool) (y : A) (xs : List A) → In y (filter p xs) → In y xs × (p y ≡ true)
  filter-In p y [] h = absurd h
  filter-In p y (x ∷ xs) h =
      elim (p x) as (λ b. p x ≡ b → In y (cond b (x ∷ filter p xs) (filter p xs)) → (In y (x ∷ xs)) × (p y ≡ true)) [
        | true ↦ λ e i. elim i [ inl same ↦ (inl same, ap p same ∙ e) | inr rest ↦ let r = filter-In p y xs rest in (inr r.0, r.1) ]
        | false ↦ λ e i. let r = filter-In p y xs i in (inr r.0, r.1)
      ] refl h

  pub In-filter : (p : A → Bool) (y : A) (xs : List A) → In y xs → p y ≡ true → In y (filter p xs)
  In-filter p y [] h e = absurd h
  In-filter p y (x ∷ xs) (inl same) e = rw (sym (ap p same) ∙ e) (inl same)
  In-filter p y (x ∷ xs) (inr rest) e = elim (p x) as (λ b. In y (cond b (x ∷ filter p xs) (filter p xs))) [ true ↦ inr (In-filter p y xs rest e) | false ↦ In-filter p y xs rest e ]

  pub found_In : (p : A → Bool) (y : A) (xs : List A) → find p xs ≡ Some y → In y xs
  found_In p y [] e = cc
  found_In p y (x ∷ xs) e = elim (p x) as (λ b. cond b (Some x) (find p xs) ≡ Some y → In y (x ∷ xs)) [ true ↦ λ s. inl (sym (same x y s)) | false ↦ λ s. inr (found_In p y xs s) ] e
    where
      same : (a b : A) → Some a ≡ Some b → a ≡ b
      same a b s = cc

module _ {A B : Type 0} where
  pub map-In : (f : A → B) (y : B) (xs : List A) → In y (map f xs) → (x : A) × In x xs × (y ≡ f x)
  map-In f y [] h = absurd h
  map-In f y (x ∷ xs) (inl e) = (x, inl refl, e)
  map-In f y (x ∷ xs) (inr h) = let r = map-In f y xs h in (r.0, inr r.1, r.2)

  pub In-map : (f : A → B) (x : A) (xs : List A) → In x xs → In (f x) (map f xs)
  In-map f x [] h = absurd h
  In-map f x (y ∷ xs) (inl e) = inl (ap f e)
  In-map f x (y ∷ xs) (inr h) = inr (In-map f x xs h)

  pub flat_map-In : (f : A → List B) (y : B) (xs : List A) → In y (flat_map f xs) → (x : A) × In x xs × In y (f x)
  flat_map-In f y [] h = absurd h
  flat_map-In f y (x ∷ xs) h = elim (In-append y (f x) (flat_map f xs) h) [
    | inl here ↦ (x, inl refl, here)
    | inr rest ↦ let r = flat_map-In f y xs rest in (r.0, inr r.1, r.2)
  ]

  pub In-flat_map : (f : A → List B) (y : B) (x : A) (xs : List A) → In x xs → In y (f x) → In y (flat_map f xs)
  In-flat_map f y x [] h i = absurd h
  In-flat_map f y x (z ∷ xs) (inl e) i = In-left y (f z) (flat_map f xs) (subst (λ (v : A). In y (f v)) e i)
  In-flat_map f y x (z ∷ xs) (inr h) i = In-right y (f z) (flat_map f xs) (In-flat_map f y x xs h i)

  pub filter_map-In : (f : A → Option B) (y : B) (xs : List A) → In y (filter_map f xs) → (x : A) × In x xs × (f x ≡ Some y)
  filter_map-In f y [] h = absurd h
  filter_map-In f y (x ∷ xs) h =
      elim (f x) as (λ o. f x ≡ o → In y (cons_option o (filter_map f xs)) → (z : A) × In z (x ∷ xs) × (f z ≡ Some y)) [
        | None ↦ λ e i. let r = filter_map-In f y xs i in (r.0, inr r.1, r.2)
        | Some v ↦ λ e i. elim i [ inl same ↦ (x, inl refl, e ∙ ap Some (sym same)) | inr rest ↦ let r = filter_map-In f y xs rest in (r.0, inr r.1, r.2) ]
      ] refl h

  pub In-filter_map : (f : A → Option B) (y : B) (x : A) (xs : List A) → In x xs → f x ≡ Some y → In y (filter_map f xs)
  In-filter_map f y x [] h e = absurd h
  In-filter_map f y x (z ∷ xs) (inl same) e = subst (λ (o : Option B). In y (cons_option o (filter_map f xs))) (sym (sym (ap f same) ∙ e)) (inl refl)
  In-filter_map f y x (z ∷ xs) (inr h) e =
      elim (f z) as (λ o. In y (cons_option o (filter_map f xs))) [ None ↦ In-filter_map f y x xs h e | Some v ↦ inr (In-filter_map f y x xs h e) ]

module _ {A : Type 0} (eq : A → A → Bool) (laws : IsEquivalence eq) (exact : IsExact eq) where
  pub any-In : (x : A) (xs : List A) → list_any (eq x) xs ≡ true → In x xs
  any-In x [] e = absurd (true≢false (sym e))
  any-In x (y ∷ xs) e = elim (eq x y) as (λ b. eq x y ≡ b → (b || list_any (eq x) xs) ≡ true → In x (y ∷ xs)) [ true ↦ λ t _. inl (exact x y t) | false ↦ λ _ r. inr (any-In x xs r) ] refl e

  pub In-any : (x : A) (xs : List A) → In x xs → list_any (eq x) xs ≡ true
  In-any x [] h = absurd h
  In-any x (y ∷ xs) (inl e) = subst (λ (v : A). (eq x v || list_any (eq x) xs) ≡ true) e (rw (laws.refl x) refl)
  In-any x (y ∷ xs) (inr h) = rw (In-any x xs h) (elim (eq x y) as (λ b. (b || true) ≡ true) [ true ↦ refl | false ↦ refl ])

  pub or_not : (x : A) (xs : List A) → In x xs ⊎ (In x xs → ⊥)
  or_not x xs = elim (list_any (eq x) xs) as (λ b. list_any (eq x) xs ≡ b → In x xs ⊎ (In x xs → ⊥)) [ true ↦ λ e. inl (any-In x xs e) | false ↦ λ e. inr (λ h. true≢false (sym (In-any x xs h) ∙ e)) ] refl
