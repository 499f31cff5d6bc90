-- The bounds of values on shelves.
use Rattle.std.proofs.Common.{◌≡◌, ℕ, zero, suc, ◌+◌, ◌-◌, ◌<◌, ◌≤◌, inl, inr, List, [], ◌∷◌, length, get_or, take, refl, sym, ap, subst, ◌∙◌, arith}
use Rattle.std.specs.List.{All, AllWithin}
use Rattle.std.proofs.lemmas.List.{get_or-append_right, get_or_append_left, length-append}
use Rattle.std.proofs.lemmas.List.Concat.{get_or-flat_map}
use Rattle.std.proofs.lemmas.List.Elements.{All-take}
use Rattle.std.proofs.lemmas.Bool.{cases_lt}
use Rattle.shelf_kit.specs.Shelving.{IsFilled, IsTop, begin_of, bounds_of, bounds_on, items_of, items_on}
use Rattle.shelf_kit.specs.declared.shelf.Shelf.{Shelf}
use Rattle.shelf_kit.proofs.Pieces.{front}

module _ {A : Type 0} where
  pub filled_at : (xs : List (Shelf A)) (s : ℕ) (x : Shelf A) → All IsFilled xs → s < length xs → x ≡ get_or xs s x → IsFilled x
  filled_at xs s x filled h at = subst (λ (y : Shelf A). IsFilled y) (sym at) (filled s x h)

  pub filled_behind : (x : Shelf A) (xs : List (Shelf A)) → All IsFilled (x ∷ xs) → All IsFilled xs
  filled_behind x xs filled k d h = filled (suc k) d (omega (arith, h))

  pub length_bounds : (xs : List (Shelf A)) → All IsFilled xs → length (bounds_on xs) ≡ length (items_on xs)
  length_bounds [] filled = refl
  length_bounds (x ∷ xs) filled =
      let rest = length_bounds xs (filled_behind x xs filled) in
      let here = (filled 0 x (omega arith)).matched in
      let one = length-append (bounds_of x) (bounds_on xs) in
      let two = length-append (items_of x) (items_on xs) in
      omega (arith, rest, here, one, two)

  -- as many bounds as values stand before a shelf
  pub begin_bounds : (xs : List (Shelf A)) (s : ℕ) → All IsFilled xs → length (front bounds_of xs s) ≡ begin_of xs s
  begin_bounds xs s filled = length_bounds (take s xs) (All-take IsFilled s xs filled)

  -- the bound of a place that is on a shelf
  pub bound_at : (xs : List (Shelf A)) (s i : ℕ) (x : Shelf A) → All IsFilled xs → s < length xs → x ≡ get_or xs s x → i < length (bounds_of x) → get_or (bounds_on xs) (begin_of xs s + i) 0 ≡ get_or (bounds_of x) i 0
  bound_at xs s i x filled h at within =
      ap (λ k. get_or (bounds_on xs) (k + i) 0) (sym (begin_bounds xs s filled))
      ∙ get_or-flat_map bounds_of xs s i x 0 h (subst (λ (y : Shelf A). i < length (bounds_of y)) at within)
      ∙ ap (λ (y : Shelf A). get_or (bounds_of y) i 0) (sym at)

  -- low bounds of a shelf from a place up to another
  pub bounds_here : (xs : List (Shelf A)) (s a b number : ℕ) (x : Shelf A) → All IsFilled xs → s < length xs → x ≡ get_or xs s x → b ≤ length (bounds_of x) → ((k : ℕ) → a ≤ k → k < b → get_or (bounds_of x) k 0 ≤ number)
      → (k : ℕ) → begin_of xs s + a ≤ k → k < begin_of xs s + b → get_or (bounds_on xs) k 0 ≤ number
  bounds_here xs s a b number x filled h at most low k from until =
      let is = bound_at xs s (k - begin_of xs s) x filled h at (omega (arith, from, until, most)) in
      let few = low (k - begin_of xs s) (omega (arith, from)) (omega (arith, from, until)) in
      let place : get_or (bounds_on xs) (begin_of xs s + (k - begin_of xs s)) 0 ≡ get_or (bounds_on xs) k 0 = ap (λ j. get_or (bounds_on xs) j 0) (there (begin_of xs s) k (omega (arith, from))) in
      omega (arith, is, few, place)
    where
      there : (n k : ℕ) → n ≤ k → n + (k - n) ≡ k
      there n k h = omega arith

  -- behind the first shelf
  later : (x : Shelf A) (xs : List (Shelf A)) (k : ℕ) → IsFilled x → length (items_of x) ≤ k → get_or (bounds_on (x ∷ xs)) k 0 ≡ get_or (bounds_on xs) (k - length (items_of x)) 0
  later x xs k own h = get_or-append_right (bounds_of x) (bounds_on xs) (length (items_of x)) k 0 own.matched h

  begin_behind : (x : Shelf A) (xs : List (Shelf A)) (s : ℕ) → begin_of (x ∷ xs) (suc s) ≡ length (items_of x) + begin_of xs s
  begin_behind x xs s = length-append (items_of x) (items_on (take s xs))

  on_first : (x : Shelf A) (xs : List (Shelf A)) (k number : ℕ) → IsFilled x → k < length (items_of x) → IsTop x number → get_or (bounds_on (x ∷ xs)) k 0 ≤ number
  on_first x xs k number own h low =
      let many = own.matched in
      let is : get_or (bounds_on (x ∷ xs)) k 0 ≡ get_or (bounds_of x) k 0 = get_or_append_left (bounds_of x) (bounds_on xs) 0 k (omega (arith, many, h)) in
      let most = low k 0 (omega (arith, many, h)) in
      omega (arith, is, most)

  -- where all shelves from one up to another have low bounds, so have the values there
  pub bounds_passed : (xs : List (Shelf A)) (a b number : ℕ) → All IsFilled xs → b ≤ length xs → AllWithin (λ (x : Shelf A). IsTop x number) xs a b → (k : ℕ) → begin_of xs a ≤ k → k < begin_of xs b → get_or (bounds_on xs) k 0 ≤ number
  bounds_passed [] a zero number filled h low k from until = absurd (omega (arith, until))
  bounds_passed [] a (suc b) number filled h low k from until = absurd (omega (arith, h))
  bounds_passed (x ∷ xs) a zero number filled h low k from until = absurd (omega (arith, until))
  bounds_passed (x ∷ xs) zero (suc b) number filled h low k from until =
      let end = begin_behind x xs b in
      let own = filled 0 x (omega arith) in
      elim (cases_lt k (length (items_of x))) [
        | inl here ↦ on_first x xs k number own here (low 0 x (omega arith) (omega arith))
        | inr there ↦
            let rest = bounds_passed xs zero b number (filled_behind x xs filled) (omega (arith, h)) (λ j d l m. low (suc j) d (omega arith) (omega (arith, m))) (k - length (items_of x)) (omega arith) (omega (arith, end, until, there)) in
            let is = later x xs k own there in
            omega (arith, rest, is)
      ]
  bounds_passed (x ∷ xs) (suc a) (suc b) number filled h low k from until =
      let begin = begin_behind x xs a in
      let end = begin_behind x xs b in
      let own = filled 0 x (omega arith) in
      let there : length (items_of x) ≤ k = omega (arith, begin, from) in
      let rest = bounds_passed xs a b number (filled_behind x xs filled) (omega (arith, h)) (λ j d l m. low (suc j) d (omega (arith, l)) (omega (arith, m))) (k - length (items_of x)) (omega (arith, begin, from)) (omega (arith, end, until, there)) in
      let is = later x xs k own there in
      omega (arith, rest, is)
