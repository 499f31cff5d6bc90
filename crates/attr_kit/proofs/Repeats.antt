-- A search for the first element that ties with an earlier one: its steps, and what it says.
use Rattle.std.proofs.Common.{◌≡◌, ℕ, ◌+◌, ◌<◌, ◌≤◌, List, [], ◌∷◌, ◌++◌, ◌||◌, Bool, true, false, cond, Some, None, length, take, drop, get_or, ap, sym, ◌∙◌, refl, subst, append_assoc, append-nil, suc, arith}
use Rattle.std.proofs.lemmas.List.{take_more, drop_more, drop_all}
use Rattle.std.proofs.lemmas.List.Folds.{list_any_more}
use Rattle.std.specs.Cmp.{IsEquivalence}
use Rattle.std.proofs.lemmas.Map.Keys.{IsDistinct-push}
use Rattle.std.specs.List.{list_any, IsDistinct, AllByRecursion}
use Rattle.std.specs.Option.{unwrap_or}
use Rattle.attr_kit.specs.Refusing.{repeat, repeat_from}

opened : {A : Type 0} (eq : A → A → Bool) (xs : List A) (i : ℕ) (d : A) → i < length xs → repeat_from eq (take i xs) i (drop i xs) ≡ cond (list_any (eq (get_or xs i d)) (take i xs)) (Some i) (repeat_from eq (take (i + 1) xs) (i + 1) (drop (i + 1) xs))
opened eq xs i d h = rw (drop_more xs i d h) (rw (take_more xs i d h) refl)

-- here is one
pub repeat_here : {A : Type 0} (eq : A → A → Bool) (xs : List A) (i : ℕ) (d : A) → i < length xs → repeat eq xs ≡ repeat_from eq (take i xs) i (drop i xs) → list_any (eq (get_or xs i d)) (take i xs) ≡ true → repeat eq xs ≡ Some i
repeat_here eq xs i d h so here = so ∙ opened eq xs i d h ∙ ap (λ b. cond b (Some i) (repeat_from eq (take (i + 1) xs) (i + 1) (drop (i + 1) xs))) here

-- here is none
pub repeat_later : {A : Type 0} (eq : A → A → Bool) (xs : List A) (i : ℕ) (d : A) → i < length xs → repeat eq xs ≡ repeat_from eq (take i xs) i (drop i xs) → list_any (eq (get_or xs i d)) (take i xs) ≡ false → repeat eq xs ≡ repeat_from eq (take (i + 1) xs) (i + 1) (drop (i + 1) xs)
repeat_later eq xs i d h so none = so ∙ opened eq xs i d h ∙ ap (λ b. cond b (Some i) (repeat_from eq (take (i + 1) xs) (i + 1) (drop (i + 1) xs))) none

pub repeat_none : {A : Type 0} (eq : A → A → Bool) (xs : List A) (i : ℕ) → length xs ≤ i → repeat eq xs ≡ repeat_from eq (take i xs) i (drop i xs) → repeat eq xs ≡ None
repeat_none eq xs i h so = so ∙ ap (repeat_from eq (take i xs) i) (drop_all i xs h)

first_false : (a b : Bool) → (a || b) ≡ false → a ≡ false
first_false true b e = e
first_false false b e = refl

second_false : (a b : Bool) → (a || b) ≡ false → b ≡ false
second_false true b e = cc
second_false false b e = e

joined : (was tied : Bool) → cond tied true was ≡ (was || tied)
joined true true = refl
joined true false = refl
joined false true = refl
joined false false = refl

-- what a set of the elements so far has, one element later
pub seen_more : {A : Type 0} (test : A → Bool) (xs : List A) (i : ℕ) (d : A) (was now tied : Bool) → i < length xs → was ≡ list_any test (take i xs) → now ≡ cond tied true was → tied ≡ test (get_or xs i d) → now ≡ list_any test (take (i + 1) xs)
seen_more test xs i d was now tied h w n t = n ∙ joined was tied ∙ (λ j. w j || t j) ∙ sym (list_any_more test xs i d h)

distinct_from : {A : Type 0} {eq : A → A → Bool} → IsEquivalence eq → (earlier : List A) (i : ℕ) (xs : List A) → IsDistinct eq earlier → repeat_from eq earlier i xs ≡ None → IsDistinct eq (earlier ++ xs)
distinct_from {eq = eq} laws earlier i [] d e = subst (IsDistinct eq) (sym (append-nil earlier)) d
distinct_from {eq = eq} laws earlier i (x ∷ xs) d e =
    elim (list_any (eq x) earlier) as (λ b. list_any (eq x) earlier ≡ b → cond b (Some i) (repeat_from eq (earlier ++ x ∷ []) (i + 1) xs) ≡ None → IsDistinct eq (earlier ++ x ∷ xs)) [
      | true ↦ λ h n. cc
      | false ↦ λ h n. subst (IsDistinct eq) (append_assoc earlier (x ∷ []) xs) (distinct_from laws (earlier ++ x ∷ []) (i + 1) xs (IsDistinct-push laws earlier x d h) n)
    ] refl e

nothing : {A : Type 0} (eq : A → A → Bool) → IsDistinct eq []
unfolding IsDistinct
nothing eq = tt

-- where none repeats, no two are equal
pub distinct : {A : Type 0} {eq : A → A → Bool} → IsEquivalence eq → (xs : List A) → repeat eq xs ≡ None → IsDistinct eq xs
distinct {eq = eq} laws xs e = distinct_from laws [] 0 xs (nothing eq) e

module _ {A : Type 0} (eq : A → A → Bool) where
  -- i places behind place b stands the first element that ties with an earlier one
  abbrev Tied : List A → ℕ → List A → A → ℕ → Type 0
  Tied before b xs d j = (i : ℕ) × (j ≡ b + i) × (i < length xs) × (list_any (eq (get_or xs i d)) (before ++ take i xs) ≡ true) × (repeat_from eq before b (take i xs) ≡ None)

  first_tie_from : (before : List A) (b : ℕ) (xs : List A) (d : A) (j : ℕ) → repeat_from eq before b xs ≡ Some j → Tied before b xs d j
  first_tie_from before b [] d j e = cc
  first_tie_from before b (x ∷ xs) d j e =
      elim (list_any (eq x) before) as (λ t. list_any (eq x) before ≡ t → cond t (Some b) (repeat_from eq (before ++ x ∷ []) (b + 1) xs) ≡ Some j → Tied before b (x ∷ xs) d j) [
        | true ↦ λ t s. (0, here b j (ap (λ o. unwrap_or o b) s), omega arith, ap (list_any (eq x)) (append-nil before) ∙ t, refl)
        | false ↦ λ t s.
            let r = first_tie_from (before ++ x ∷ []) (b + 1) xs d j s in
            (suc r.0, omega (arith, r.1), omega (arith, r.2), ap (list_any (eq (get_or xs r.0 d))) (sym (append_assoc before (x ∷ []) (take r.0 xs))) ∙ r.3, ap (λ t. cond t (Some b) (repeat_from eq (before ++ x ∷ []) (b + 1) (take r.0 xs))) t ∙ r.4)
      ] refl e
    where
      here : (b j : ℕ) → b ≡ j → j ≡ b + 0
      here b j e = omega arith

  -- the element that is found ties with an earlier one, and the earlier ones have no repeat
  pub repeat_some : (xs : List A) (d : A) (i : ℕ) → repeat eq xs ≡ Some i → (i < length xs) × (list_any (eq (get_or xs i d)) (take i xs) ≡ true) × (repeat eq (take i xs) ≡ None)
  repeat_some xs d i e =
      let r = first_tie_from [] 0 xs d i e in
      let at : r.0 ≡ i = omega (arith, r.1) in
      (omega (arith, r.2), subst (λ n. list_any (eq (get_or xs n d)) (take n xs) ≡ true) at r.3, subst (λ n. repeat eq (take n xs) ≡ None) at r.4)

  module _ (flips : (x y : A) → eq x y ≡ eq y x) where
    none_equal : (x : A) (ys : List A) → AllByRecursion (λ y. eq x y ≡ false) ys → list_any (eq x) ys ≡ false
    none_equal x [] h = refl
    none_equal x (y ∷ ys) h = (λ i. h.0 i || list_any (eq x) ys) ∙ none_equal x ys h.1

    ties_push : (x y : A) (before : List A) → list_any (eq y) before ≡ false → eq x y ≡ false → list_any (eq y) (before ++ x ∷ []) ≡ false
    ties_push x y [] h e = ap (λ t. t || false) (flips y x ∙ e)
    ties_push x y (z ∷ before) h e = ap (λ t. t || list_any (eq y) (before ++ x ∷ [])) (first_false _ _ h) ∙ ties_push x y before (second_false _ _ h) e

    -- elements none of which ties with those before
    abbrev Apart : List A → List A → Type 0
    Apart before xs = AllByRecursion (λ y. list_any (eq y) before ≡ false) xs

    apart_push : (x : A) (before xs : List A) → Apart before xs → AllByRecursion (λ y. eq x y ≡ false) xs → Apart (before ++ x ∷ []) xs
    apart_push x before [] h e = tt
    apart_push x before (y ∷ xs) h e = (ties_push x y before h.0 e.0, apart_push x before xs h.1 e.1)

    none_again : (before : List A) (b : ℕ) (xs : List A) → Apart before xs → IsDistinct eq xs → repeat_from eq before b xs ≡ None
    unfolding IsDistinct
    none_again before b [] h e = refl
    none_again before b (x ∷ xs) h e =
        ap (λ t. cond t (Some b) (repeat_from eq (before ++ x ∷ []) (b + 1) xs)) h.0
        ∙ none_again (before ++ x ∷ []) (b + 1) xs (apart_push x before xs h.1 e.0) e.1

    nothing_before : (xs : List A) → Apart [] xs
    nothing_before [] = tt
    nothing_before (x ∷ xs) = (refl, nothing_before xs)

    -- where no two are equal, none repeats
    pub distinct_none : (xs : List A) → IsDistinct eq xs → repeat eq xs ≡ None
    distinct_none xs e = none_again [] 0 xs (nothing_before xs) e
