-- Lists of which each member gives something, and pieces with no `=`.
use Rattle.std.proofs.Common.{◌≡◌, ◌≢◌, ◌<◌, ◌+◌, ℕ, zero, suc, Bool, false, List, [], ◌∷◌, ◌++◌, ◌∙◌, ap, arith, refl, sym, take, length, get_or, Option, Some, None, eqb, map}
use Rattle.std.specs.List.{position_or_len, list_any}
use Rattle.std.proofs.lemmas.List.{take_more, get_or-map, length-map}
use Rattle.std.proofs.lemmas.List.Folds.{list_any_none}
use Rattle.std.proofs.lemmas.List.Sums.{fails_before_first}
use Rattle.std.proofs.lemmas.List.Elements.{All-from_get_or}
use Rattle.std.proofs.lemmas.Bool.Decides.{nat_tests}
use Rattle.script_kit.specs.Attributes.{plain_text}
use Rattle.script_kit.specs.Pieces.{all_some, both, front}

pub plain_whole : (bs : List ℕ) → ((rest : List ℕ) → bs ≢ 39 ∷ rest) → plain_text bs ≡ bs
plain_whole [] differs = refl
plain_whole (c ∷ cs) differs =
    let apart : c ≢ 39 = λ e. differs cs (ap {A = ℕ} {B = List ℕ} (λ x. x ∷ cs) e) in
    let off : eqb c 39 ≡ false = grind (arith, nat_tests) in
    rw off refl

pub none_any : (p : ℕ → Bool) (xs : List ℕ) → position_or_len p xs ≡ length xs → list_any p xs ≡ false
none_any p xs e = list_any_none p xs (All-from_get_or (λ x. p x ≡ false) xs 0 (λ i less. fails_before_first p xs i 0 (omega arith)))

all_some_push : {A B : Type 0} (f : A → Option B) (xs : List A) (x : A) (ys : List B) (y : B) → all_some f xs ≡ Some ys → f x ≡ Some y → all_some f (xs ++ x ∷ []) ≡ Some (ys ++ y ∷ [])
all_some_push f [] x ys y e h = rw h (cc)
all_some_push {A} {B} f (w ∷ xs) x ys y e h =
    elim (f w) as (λ o. both o (all_some f xs) ≡ Some ys → both o (all_some f (xs ++ x ∷ [])) ≡ Some (ys ++ y ∷ [])) [
      | None ↦ λ k. cc
      | (Some z) ↦ λ k. elim (all_some f xs) as (λ o. front z o ≡ Some ys → all_some f xs ≡ o → front z (all_some f (xs ++ x ∷ [])) ≡ Some (ys ++ y ∷ [])) [
        | None ↦ λ j i. cc
        | (Some zs) ↦ λ j i.
            let next : all_some f (xs ++ x ∷ []) ≡ Some (zs ++ y ∷ []) = all_some_push f xs x zs y i h in
            let same : z ∷ zs ≡ ys = cc in
            rw next (ap {A = List B} {B = Option (List B)} (λ l. Some (l ++ y ∷ [])) same)
      ] k refl
    ] e

pub all_some_more : {A B : Type 0} (f : A → Option B) (xs : List A) (i : ℕ) (d : A) (ys : List B) (y : B) → i < length xs → all_some f (take i xs) ≡ Some ys → f (get_or xs i d) ≡ Some y
    → all_some f (take (i + 1) xs) ≡ Some (ys ++ y ∷ [])
all_some_more f xs i d ys y less e h = rw (take_more xs i d less) (all_some_push f (take i xs) (get_or xs i d) ys y e h)

none_last : {B : Type 0} (o : Option B) → both o None ≡ None
none_last None = refl
none_last (Some x) = refl

pub all_some_none : {A B : Type 0} (f : A → Option B) (xs : List A) (i : ℕ) (d : A) → i < length xs → f (get_or xs i d) ≡ None → all_some f xs ≡ None
all_some_none f [] i d less h = absurd (omega arith)
all_some_none f (x ∷ xs) zero d less h = rw h refl
all_some_none f (x ∷ xs) (suc i) d less h = rw (all_some_none f xs i d (omega arith) h) (none_last (f x))

-- the same, of the list that g makes of xs
pub mapped_more : {A B C : Type 0} (f : A → Option B) (g : C → A) (xs : List C) (i : ℕ) (d : C) (ys : List B) (y : B) → i < length xs → all_some f (take i (map g xs)) ≡ Some ys
    → Some y ≡ f (g (get_or xs i d)) → all_some f (take (i + 1) (map g xs)) ≡ Some (ys ++ y ∷ [])
mapped_more f g xs i d ys y less e h =
    let at : get_or (map g xs) i (g d) ≡ g (get_or xs i d) = get_or-map g xs i d (g d) less in
    all_some_more f (map g xs) i (g d) ys y (omega (arith, length-map xs g)) e (ap f at ∙ sym h)

pub mapped_none : {A B C : Type 0} (f : A → Option B) (g : C → A) (xs : List C) (i : ℕ) (d : C) → i < length xs → None ≡ f (g (get_or xs i d)) → all_some f (map g xs) ≡ None
mapped_none f g xs i d less h =
    let at : get_or (map g xs) i (g d) ≡ g (get_or xs i d) = get_or-map g xs i d (g d) less in
    all_some_none f (map g xs) i (g d) (omega (arith, length-map xs g)) (ap f at ∙ sym h)
