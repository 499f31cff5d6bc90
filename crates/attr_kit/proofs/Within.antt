-- A search for the first element that has a place within: its steps, and what it says.
use Rattle.std.proofs.Common.{◌≡◌, ℕ, zero, suc, ◌+◌, ◌<◌, ◌≤◌, List, [], ◌∷◌, Option, Some, None, length, drop, get_or, ap, ◌∙◌, refl, subst, arith}
use Rattle.std.proofs.lemmas.List.{drop_more, drop_all}
use Rattle.std.specs.Option.{option_or, option_map, unwrap_or}
use Rattle.attr_kit.proofs.Firsts.{map_none}
use Rattle.attr_kit.specs.Refusing.{within, within_from}

pub within_here : {A : Type 0} (f : A → Option ℕ) (xs : List A) (i : ℕ) (d : A) (v : ℕ) → i < length xs → within f xs ≡ within_from f i (drop i xs) → f (get_or xs i d) ≡ Some v → within f xs ≡ Some (i, v)
within_here f xs i d v h so e = so ∙ ap (within_from f i) (drop_more xs i d h) ∙ ap (λ r. option_or (option_map (λ v. (i, v)) r) (within_from f (i + 1) (drop (i + 1) xs))) e

pub within_later : {A : Type 0} (f : A → Option ℕ) (xs : List A) (i : ℕ) (d : A) → i < length xs → within f xs ≡ within_from f i (drop i xs) → f (get_or xs i d) ≡ None → within f xs ≡ within_from f (i + 1) (drop (i + 1) xs)
within_later f xs i d h so e = so ∙ ap (within_from f i) (drop_more xs i d h) ∙ ap (λ r. option_or (option_map (λ v. (i, v)) r) (within_from f (i + 1) (drop (i + 1) xs))) e

pub within_none : {A : Type 0} (f : A → Option ℕ) (xs : List A) (i : ℕ) → length xs ≤ i → within f xs ≡ within_from f i (drop i xs) → within f xs ≡ None
within_none f xs i h so = so ∙ ap (within_from f i) (drop_all i xs h)

left_none : {X : Type 0} (a b : Option X) → option_or a b ≡ None → a ≡ None
left_none None b e = refl
left_none (Some x) b e = cc

right_none : {X : Type 0} (a b : Option X) → option_or a b ≡ None → b ≡ None
right_none None b e = e
right_none (Some x) b e = cc

module _ {A : Type 0} (f : A → Option ℕ) where
  none_from : (i : ℕ) (xs : List A) → within_from f i xs ≡ None → (k : ℕ) (d : A) → k < length xs → f (get_or xs k d) ≡ None
  none_from i [] e k d h = absurd (omega arith)
  none_from i (x ∷ xs) e zero d h = map_none (λ v. (i, v)) (f x) (left_none _ (within_from f (i + 1) xs) e)
  none_from i (x ∷ xs) e (suc k) d h = none_from (i + 1) xs (right_none (option_map (λ v. (i, v)) (f x)) _ e) k d (omega arith)

  -- where none is found, no element has a place within
  pub within_nowhere : (xs : List A) → within f xs ≡ None → (k : ℕ) (d : A) → k < length xs → f (get_or xs k d) ≡ None
  within_nowhere xs e = none_from 0 xs e

  earlier : (x : A) (xs : List A) (i : ℕ) (d : A) → f x ≡ None → ((k : ℕ) → k < i → f (get_or xs k d) ≡ None) → (k : ℕ) → k < suc i → f (get_or (x ∷ xs) k d) ≡ None
  earlier x xs i d n rest zero h = n
  earlier x xs i d n rest (suc k) h = rest k (omega arith)

  -- i places behind place b stands the first element that has a place within, which is v
  abbrev Found : ℕ → List A → A → ℕ → ℕ → Type 0
  Found b xs d j v = (i : ℕ) × (j ≡ b + i) × (i < length xs) × (f (get_or xs i d) ≡ Some v) × ((k : ℕ) → k < i → f (get_or xs k d) ≡ None)

  found_from : (b : ℕ) (xs : List A) (d : A) (j v : ℕ) → within_from f b xs ≡ Some (j, v) → Found b xs d j v
  found_from b [] d j v e = cc
  found_from b (x ∷ xs) d j v e =
      elim (f x) as (λ r. f x ≡ r → option_or (option_map (λ v. (b, v)) r) (within_from f (b + 1) xs) ≡ Some (j, v) → Found b (x ∷ xs) d j v) [
        | None ↦ λ n s.
            let r = found_from (b + 1) xs d j v s in
            (suc r.0, omega (arith, r.1), omega (arith, r.2), r.3, earlier x xs r.0 d n r.4)
        | Some w ↦ λ n s.
            let same : ◌≡◌ {A = ℕ × ℕ} (b, w) (j, v) = ap (λ o. unwrap_or o (b, w)) s in
            (0, here b j (ap (λ p. p.0) same), omega arith, n ∙ ap (λ p. Some p.1) same, λ k h. absurd (omega arith))
      ] refl e
    where
      here : (b j : ℕ) → b ≡ j → j ≡ b + 0
      here b j e = omega arith

  -- the place that is found, its place within, and that no earlier element has one
  pub within_some : (xs : List A) (d : A) (i v : ℕ) → within f xs ≡ Some (i, v) → (i < length xs) × (f (get_or xs i d) ≡ Some v) × ((k : ℕ) → k < i → f (get_or xs k d) ≡ None)
  within_some xs d i v e =
      let r = found_from 0 xs d i v e in
      let at : r.0 ≡ i = omega (arith, r.1) in
      (omega (arith, r.2), subst (λ n. f (get_or xs n d) ≡ Some v) at r.3, λ k h. r.4 k (omega arith))
