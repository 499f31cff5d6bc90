-- Which bounds a set has, and which are kept.
use Rattle.std.proofs.Common.{◌≡◌, ℕ, ℤ, ◌+◌, ◌<◌, ◌||◌, Bool, true, false, cond, List, [], ◌∷◌, ◌++◌, map, filter, length, take, get_or, refl, sym, ap, ◌∙◌, append_assoc}
use Rattle.std.specs.Cmp.{eq_by_cmp_equiv, int_cmp_total}
use Rattle.std.specs.List.{list_any}
use Rattle.std.specs.Ordering.{eq_by_cmp, int_cmp}
use Rattle.std.proofs.lemmas.List.{append-nil, map-append, take_more}
use Rattle.std.proofs.lemmas.List.Elements.{filter_more}

or_first : (a b : Bool) → (a || b) ≡ cond b true a
or_first true true = refl
or_first true false = refl
or_first false true = refl
or_first false false = refl

or_false : (a : Bool) → (a || false) ≡ a
or_false true = refl
or_false false = refl

or_assoc : (a b c : Bool) → (a || (b || c)) ≡ ((a || b) || c)
or_assoc true b c = refl
or_assoc false b c = refl

any_snoc : {A : Type 0} (p : A → Bool) (xs : List A) (x : A) → list_any p (xs ++ x ∷ []) ≡ (list_any p xs || p x)
any_snoc p [] x = or_false (p x)
any_snoc p (y ∷ ys) x = ap (λ (b : Bool). p y || b) (any_snoc p ys x) ∙ or_assoc (p y) (list_any p ys) (p x)

-- one bound more
pub has_more : (bounds old new : List ℤ) (i : ℕ) (d q : ℤ) → i < length bounds → list_any (eq_by_cmp int_cmp q) old ≡ list_any (eq_by_cmp int_cmp q) (take i bounds)
    → list_any (eq_by_cmp int_cmp q) new ≡ cond (eq_by_cmp int_cmp (get_or bounds i d) q) true (list_any (eq_by_cmp int_cmp q) old) → list_any (eq_by_cmp int_cmp q) new ≡ list_any (eq_by_cmp int_cmp q) (take (i + 1) bounds)
has_more bounds old new i d q h had adds =
    let test = eq_by_cmp int_cmp q in
    let x = get_or bounds i d in
    adds ∙ ap (λ (b : Bool). cond b true (list_any test old)) ((eq_by_cmp_equiv int_cmp_total).symm x q) ∙ ap (λ (b : Bool). cond (test x) true b) had
    ∙ sym (or_first (list_any test (take i bounds)) (test x)) ∙ sym (any_snoc test (take i bounds) x) ∙ ap (list_any test) (sym (take_more bounds i d h))

put_behind : {A : Type 0} (b : Bool) (xs : List A) (x : A) → cond b (xs ++ x ∷ []) xs ≡ xs ++ cond b (x ∷ []) []
put_behind true xs x = refl
put_behind false xs x = sym (append-nil xs)

-- a bound more that is kept where it passes
pub kept_more : {A : Type 0} (p : A → Bool) (xs old new : List A) (i : ℕ) (d : A) (b : Bool) → i < length xs → old ≡ filter p (take i xs) → b ≡ p (get_or xs i d) → new ≡ cond b (old ++ get_or xs i d ∷ []) old → new ≡ filter p (take (i + 1) xs)
kept_more {A} p xs old new i d b h had is adds =
    adds ∙ put_behind b old (get_or xs i d) ∙ ap (λ (l : List A). l ++ cond b (get_or xs i d ∷ []) []) had ∙ ap (λ (c : Bool). filter p (take i xs) ++ cond c (get_or xs i d ∷ []) []) is ∙ sym (filter_more p xs i d h)

-- the same of one that is taken from what is left
pub kept_next : {A : Type 0} (p : A → Bool) (out next left : List A) (x : A) → next ≡ cond (p x) (out ++ x ∷ []) out → next ++ filter p left ≡ out ++ filter p (x ∷ left)
kept_next {A} p out next left x is = ap (λ (l : List A). l ++ filter p left) is ∙ both (p x) where
  both : (b : Bool) → cond b (out ++ x ∷ []) out ++ filter p left ≡ out ++ cond b (x ∷ filter p left) (filter p left)
  both true = append_assoc out (x ∷ []) (filter p left)
  both false = refl

-- and the same of what is read of it
pub read_next : {A B : Type 0} (view : A → B) (p : B → Bool) (out next : List A) (left : List B) (x : A) → next ≡ cond (p (view x)) (out ++ x ∷ []) out → map view next ++ filter p left ≡ map view out ++ filter p (view x ∷ left)
read_next {A} {B} view p out next left x is = ap (λ (l : List A). map view l ++ filter p left) is ∙ both (p (view x)) where
  both : (b : Bool) → map view (cond b (out ++ x ∷ []) out) ++ filter p left ≡ map view out ++ cond b (view x ∷ filter p left) (filter p left)
  both true = ap (λ (l : List B). l ++ filter p left) (map-append view out (x ∷ [])) ∙ append_assoc (map view out) (view x ∷ []) (filter p left)
  both false = refl
