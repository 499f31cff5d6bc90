-- Lists with the same elements, each as often.
use Rattle.std.proofs.Common.{◌≡◌, inl, inr, ℕ, ◌+◌, ◌<◌, Bool, true, false, cond, List, [], ◌∷◌, ◌++◌, map, filter, length, refl, sym, ap, ◌∙◌, arith}
use Rattle.std.specs.List.{flat_map}
use Rattle.attr_kit.specs.Exact.{IsExact}
use Rattle.schedule_kit.specs.Members.{In}
use Rattle.schedule_kit.specs.Totals.{IsSum, total}
use Rattle.schedule_kit.proofs.Totals.{count_sum, total-append, total-map, total-flat_map}
use Rattle.schedule_kit.specs.Mixed.{AreMixed}

module _ {A : Type 0} (eq : A → A → Bool) where
  -- the list without the first element that is x
  abbrev pub without : A → List A → List A
  without x [] = []
  without x (y ∷ ys) = cond (eq x y) ys (y ∷ without x ys)

  -- how often x stands in the list
  abbrev pub times : A → List A → ℕ
  times x ys = total 0 ◌+◌ (λ y. cond (eq x y) 1 0) ys

  module _ (exact : IsExact eq) {V : Type 0} (zero : V) (plus : V → V → V) (sum : IsSum zero plus) (f : A → V) where
    turned : (a b c : V) → plus a (plus b c) ≡ plus b (plus a c)
    turned a b c = sym (sum.assoc a b c) ∙ ap (λ x. plus x c) (sum.comm a b) ∙ sum.assoc b a c

    -- x and the rest come to what the list comes to
    pub total-without : (x : A) (ys : List A) → 0 < times x ys → total zero plus f ys ≡ plus (f x) (total zero plus f (without x ys))
    total-without x [] h = absurd (omega arith)
    total-without x (y ∷ ys) h = by (total-without x ys) (eq x y) refl h
      where
        by : (0 < times x ys → total zero plus f ys ≡ plus (f x) (total zero plus f (without x ys))) → (b : Bool) → eq x y ≡ b → 0 < cond b 1 0 + times x ys
            → plus (f y) (total zero plus f ys) ≡ plus (f x) (total zero plus f (cond b ys (y ∷ without x ys)))
        by rest true e h = ap (λ z. plus (f z) (total zero plus f ys)) (sym (exact x y e))
        by rest false e h = ap (plus (f y)) (rest (omega arith)) ∙ turned (f y) (f x) (total zero plus f (without x ys))

module _ {A : Type 0} where
  none_mixed : (ys : List A) → AreMixed [] ys → [] ≡ ys
  none_mixed [] m = refl
  none_mixed (y ∷ ys) m = let e = m (λ _. 1) in absurd (omega arith)

  module _ (eq : A → A → Bool) (exact : IsExact eq) (own : (x : A) → eq x x ≡ true) where
    pub times-mixed : (x : A) (xs ys : List A) → AreMixed (x ∷ xs) ys → 0 < times eq x ys
    times-mixed x xs ys m =
        let e : cond {A = ℕ} (eq x x) 1 0 + times eq x xs ≡ times eq x ys = m (λ y. cond {A = ℕ} (eq x y) 1 0) in
        let k : cond {A = ℕ} (eq x x) 1 0 ≡ 1 = ap (λ (b : Bool). cond {A = ℕ} b 1 0) (own x) in
        omega (arith, e, k)

    pub mixed-without : (x : A) (xs ys : List A) → AreMixed (x ∷ xs) ys → AreMixed xs (without eq x ys)
    mixed-without x xs ys m = λ f.
        let e : f x + total 0 ◌+◌ f xs ≡ total 0 ◌+◌ f ys = m f in
        let k : total 0 ◌+◌ f ys ≡ f x + total 0 ◌+◌ f (without eq x ys) = total-without eq exact 0 ◌+◌ count_sum f x ys (times-mixed x xs ys m) in
        omega (arith, e, k)

    pub totals_mixed : {V : Type 0} (zero : V) (plus : V → V → V) → IsSum zero plus → (f : A → V) (xs ys : List A) → AreMixed xs ys → total zero plus f xs ≡ total zero plus f ys
    totals_mixed zero plus sum f [] ys m = ap (total zero plus f) (none_mixed ys m)
    totals_mixed zero plus sum f (x ∷ xs) ys m =
        ap (plus (f x)) (totals_mixed zero plus sum f xs (without eq x ys) (mixed-without x xs ys m))
        ∙ sym (total-without eq exact zero plus sum f x ys (times-mixed x xs ys m))

  pub mixed-refl : (xs : List A) → AreMixed xs xs
  mixed-refl xs = λ f. refl

  pub mixed-sym : (xs ys : List A) → AreMixed xs ys → AreMixed ys xs
  mixed-sym xs ys m = λ f. sym (m f)

  pub mixed-trans : (xs ys zs : List A) → AreMixed xs ys → AreMixed ys zs → AreMixed xs zs
  mixed-trans xs ys zs m n = λ f. m f ∙ n f

  pub mixed-append : (xs ys zs ws : List A) → AreMixed xs ys → AreMixed zs ws → AreMixed (xs ++ zs) (ys ++ ws)
  mixed-append xs ys zs ws m n = λ f.
      total-append 0 ◌+◌ count_sum f xs zs ∙ ap (λ k. k + total 0 ◌+◌ f zs) (m f) ∙ ap (λ k. total 0 ◌+◌ f ys + k) (n f) ∙ sym (total-append 0 ◌+◌ count_sum f ys ws)

  pub total-filter : (p : A → Bool) (f : A → ℕ) (xs : List A) → total 0 ◌+◌ f (filter p xs) ≡ total 0 ◌+◌ (λ x. cond (p x) (f x) 0) xs
  total-filter p f [] = refl
  total-filter p f (x ∷ xs) = by (p x) (total-filter p f xs)
    where
      by : (b : Bool) → total 0 ◌+◌ f (filter p xs) ≡ total 0 ◌+◌ (λ x. cond (p x) (f x) 0) xs
          → total 0 ◌+◌ f (cond b (x ∷ filter p xs) (filter p xs)) ≡ cond b (f x) 0 + total 0 ◌+◌ (λ x. cond (p x) (f x) 0) xs
      by true e = ap (λ n. f x + n) e
      by false e = e ∙ omega arith

  pub mixed-filter : (p : A → Bool) (xs ys : List A) → AreMixed xs ys → AreMixed (filter p xs) (filter p ys)
  mixed-filter p xs ys m = λ f. total-filter p f xs ∙ m (λ x. cond (p x) (f x) 0) ∙ sym (total-filter p f ys)

  pub total-ones : (xs : List A) → total 0 ◌+◌ (λ _. 1) xs ≡ length xs
  total-ones [] = refl
  total-ones (x ∷ xs) = let e = total-ones xs in omega arith

  pub mixed-length : (xs ys : List A) → AreMixed xs ys → length xs ≡ length ys
  mixed-length xs ys m = sym (total-ones xs) ∙ m (λ _. 1) ∙ total-ones ys

module _ {A B : Type 0} where
  pub mixed-map : (g : A → B) (xs ys : List A) → AreMixed xs ys → AreMixed (map g xs) (map g ys)
  mixed-map g xs ys m = λ f. total-map 0 ◌+◌ count_sum f g xs ∙ m (λ x. f (g x)) ∙ sym (total-map 0 ◌+◌ count_sum f g ys)

  pub mixed-flat_map : (g : A → List B) (xs ys : List A) → AreMixed xs ys → AreMixed (flat_map g xs) (flat_map g ys)
  mixed-flat_map g xs ys m = λ f. total-flat_map 0 ◌+◌ count_sum f g xs ∙ m (λ x. total 0 ◌+◌ f (g x)) ∙ sym (total-flat_map 0 ◌+◌ count_sum f g ys)

  pub mixed-each : (g k : A → List B) (xs : List A) → ((x : A) → In x xs → AreMixed (g x) (k x)) → AreMixed (flat_map g xs) (flat_map k xs)
  mixed-each g k [] same = λ f. refl
  mixed-each g k (x ∷ xs) same = mixed-append (g x) (k x) (flat_map g xs) (flat_map k xs) (same x (inl refl)) (mixed-each g k xs (λ y i. same y (inr i)))
