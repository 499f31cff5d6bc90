-- What a search for the least place says.
use Rattle.std.proofs.Common.{◌≡◌, ℕ, ◌+◌, ◌<◌, List, [], ◌∷◌, ◌&&◌, Bool, true, false, cond, Some, None, length, get_or, ap, sym, ◌∙◌, refl, position}
use Rattle.std.specs.List.{list_all, position_from}
use Rattle.std.proofs.lemmas.Iterator.Adapters.{position_from-zero}
use Rattle.std.proofs.lemmas.List.Quantifiers.{position-Some}
use Rattle.attr_kit.specs.Refusing.{wherever}
use Rattle.attr_kit.proofs.Firsts.{map_none, map_some}
use Rattle.attr_kit.proofs.Rising.{left, right}

nowhere_from : {A : Type 0} (t p : A → Bool) → ((x : A) → t x ≡ false → p x ≡ true) → (i : ℕ) (xs : List A) → position_from t i xs ≡ None → list_all p xs ≡ true
nowhere_from t p is i [] e = refl
nowhere_from t p is i (x ∷ xs) e =
    elim (t x) as (λ b. t x ≡ b → cond b (Some i) (position_from t (i + 1) xs) ≡ None → (p x && list_all p xs) ≡ true) [
      | true ↦ λ h n. cc
      | false ↦ λ h n. (λ j. is x h j && list_all p xs) ∙ nowhere_from t p is (i + 1) xs n
    ] refl e

-- where no place is found, each element passes what follows from failing the test
pub nowhere : {A : Type 0} (t p : A → Bool) → ((x : A) → t x ≡ false → p x ≡ true) → (xs : List A) → position t xs ≡ None → list_all p xs ≡ true
nowhere t p is xs e = nowhere_from t p is 0 xs (sym (position_from-zero t xs) ∙ e)

none_from : {A : Type 0} (t p : A → Bool) → ((x : A) → p x ≡ true → t x ≡ false) → (i : ℕ) (xs : List A) → list_all p xs ≡ true → position_from t i xs ≡ None
none_from t p is i [] h = refl
none_from t p is i (x ∷ xs) h = ap (λ b. cond b (Some i) (position_from t (i + 1) xs)) (is x (left _ _ h)) ∙ none_from t p is (i + 1) xs (right (p x) _ h)

-- where each element passes what makes it fail the test, no place is found
pub nowhere_back : {A : Type 0} (t p : A → Bool) → ((x : A) → p x ≡ true → t x ≡ false) → (xs : List A) → list_all p xs ≡ true → position t xs ≡ None
nowhere_back t p is xs h = position_from-zero t xs ∙ none_from t p is 0 xs h

-- a refusal at the least place
pub wherever_none : {F A : Type 0} (f : ℕ → F) (t p : A → Bool) → ((x : A) → t x ≡ false → p x ≡ true) → (xs : List A) → wherever f t xs ≡ None → list_all p xs ≡ true
wherever_none f t p is xs e = nowhere t p is xs (map_none f (position t xs) e)

pub wherever_some : {F A : Type 0} (f : ℕ → F) (t : A → Bool) (xs : List A) (d : A) (g : F) → wherever f t xs ≡ Some g → (i : ℕ) × (f i ≡ g) × (i < length xs) × (t (get_or xs i d) ≡ true) × ((k : ℕ) → k < i → t (get_or xs k d) ≡ false)
wherever_some f t xs d g e =
    let found = map_some f (position t xs) g e in
    let there = position-Some t xs found.0 d found.1 in
    (found.0, found.2, there.0, there.1, there.2)
