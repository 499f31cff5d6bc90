-- Where something stands in a list, and what a map of first places has.
use Rattle.std.proofs.Common.{◌≡◌, ℕ, ◌+◌, ◌<◌, ◌≤◌, not, Bool, true, false, cond, ◌||◌, List, [], ◌∷◌, ◌++◌, length, take, get_or, Option, Some, None, is_none, refl, sym, ap, ◌∙◌, subst, arith, length-take, ◌==◌}
use Rattle.std.specs.List.{list_any, position, position_from}
use Rattle.std.specs.Option.{option_or}
use Rattle.std.proofs.lemmas.Bool.{eqb-true, eq-eqb}
use Rattle.std.proofs.lemmas.Iterator.Adapters.{position_from-zero}
use Rattle.std.proofs.lemmas.List.{take_all, take_more}

-- none is found where none passes
pub found_none : {A : Type 0} (t : A → Bool) (n : ℕ) (xs : List A) → is_none (position_from t n xs) ≡ not (list_any t xs)
found_none t n [] = refl
found_none t n (x ∷ xs) = elim (t x) as (λ b. is_none (cond b (Some n) (position_from t (n + 1) xs)) ≡ not (b || list_any t xs)) [ true ↦ refl | false ↦ found_none t (n + 1) xs ]

pub place_none : {A : Type 0} (t : A → Bool) (xs : List A) → is_none (position t xs) ≡ not (list_any t xs)
place_none t xs = ap is_none (position_from-zero t xs) ∙ found_none t 0 xs

module _ {A : Type 0} where
  position_append : (t : A → Bool) (n : ℕ) (xs ys : List A) → position_from t n (xs ++ ys) ≡ option_or (position_from t n xs) (position_from t (n + length xs) ys)
  position_append t n [] ys = ap (λ (m : ℕ). position_from t m ys) (omega arith)
  position_append t n (x ∷ xs) ys = elim (t x) as (λ b. cond b (Some n) (position_from t (n + 1) (xs ++ ys)) ≡ option_or (cond b (Some n) (position_from t (n + 1) xs)) (position_from t (n + length (x ∷ xs)) ys)) [
    | true ↦ refl
    | false ↦ position_append t (n + 1) xs ys ∙ ap (λ (m : ℕ). option_or (position_from t (n + 1) xs) (position_from t m ys)) (omega arith)
  ]

-- one element more
position_more : (t : ℕ → Bool) (xs : List ℕ) (i : ℕ) (x : ℕ) → i < length xs → x ≡ get_or xs i x → position_from t 0 (take (i + 1) xs) ≡ option_or (position_from t 0 (take i xs)) (cond (t x) (Some i) None)
position_more t xs i x h at =
    let len : length (take i xs) ≡ i = omega (arith, length-take {A = ℕ}) in
    ap (position_from t 0) (take_more xs i x h ∙ ap (λ y. take i xs ++ y ∷ []) (sym at)) ∙ position_append t 0 (take i xs) (x ∷ [])
    ∙ ap (λ (m : ℕ). option_or (position_from t 0 (take i xs)) (cond (t x) (Some m) None)) (omega arith)

or_none : {A : Type 0} (o : Option A) → option_or o None ≡ o
or_none None = refl
or_none (Some a) = refl

-- the first places, where an earlier element is equal
pub firsts_found : (q : ℕ) (xs : List ℕ) (i : ℕ) (x : ℕ) (p : ℕ) → i < length xs → x ≡ get_or xs i x → ((q == x) ≡ true → q ≡ x) → position_from (λ k. x == k) 0 (take i xs) ≡ Some p → position_from (λ k. q == k) 0 (take i xs) ≡ position_from (λ k. q == k) 0 (take (i + 1) xs)
firsts_found q xs i x p h at exact found =
    let P = position_from (λ k. q == k) 0 (take i xs) in
    elim (q == x) as (λ b. (q == x) ≡ b → P ≡ option_or P (cond b (Some i) None)) [
      | true ↦ λ e. let some : P ≡ Some p = subst (λ (y : ℕ). position_from (λ k. y == k) 0 (take i xs) ≡ Some p) (sym (exact e)) found in some ∙ sym (ap (λ o. option_or o (Some i)) some)
      | false ↦ λ e. sym (or_none P)
    ] refl ∙ sym (position_more (λ k. q == k) xs i x h at)

flip : (a b : ℕ) → (a == b) ≡ (b == a)
flip a b = elim (a == b) as (λ t. (a == b) ≡ t → t ≡ (b == a)) [
  | true ↦ λ e. sym (eq-eqb b a (sym (eqb-true a b e)))
  | false ↦ λ e. elim (b == a) as (λ t. (b == a) ≡ t → false ≡ t) [
    | true ↦ λ f. sym e ∙ eq-eqb a b (sym (eqb-true b a f))
    | false ↦ λ f. refl
  ] refl
] refl

-- the first places, where no earlier element is equal
pub firsts_new : (q : ℕ) (xs : List ℕ) (i : ℕ) (x : ℕ) (new old : Option ℕ) → i < length xs → x ≡ get_or xs i x → ((q == x) ≡ true → q ≡ x) → position_from (λ k. x == k) 0 (take i xs) ≡ None → old ≡ position_from (λ k. q == k) 0 (take i xs) → new ≡ cond (x == q) (Some i) old → new ≡ position_from (λ k. q == k) 0 (take (i + 1) xs)
firsts_new q xs i x new old h at exact none was now =
    let P = position_from (λ k. q == k) 0 (take i xs) in
    now ∙ (λ j. cond (flip x q j) (Some i) (was j)) ∙ (elim (q == x) as (λ b. (q == x) ≡ b → cond b (Some i) P ≡ option_or P (cond b (Some i) None)) [
      | true ↦ λ e. let nothing : P ≡ None = subst (λ (y : ℕ). position_from (λ k. y == k) 0 (take i xs) ≡ None) (sym (exact e)) none in sym (ap (λ o. option_or o (Some i)) nothing)
      | false ↦ λ e. sym (or_none P)
    ] refl) ∙ sym (position_more (λ k. q == k) xs i x h at)

-- all elements
pub places_all : (q : ℕ) (xs : List ℕ) (i : ℕ) → length xs ≤ i → position_from (λ k. q == k) 0 (take i xs) ≡ position (λ k. q == k) xs
places_all q xs i h = ap (position_from (λ k. q == k) 0) (take_all i xs h) ∙ sym (position_from-zero (λ k. q == k) xs)
