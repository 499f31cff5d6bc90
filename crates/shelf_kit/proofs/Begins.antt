-- Where shelves begin, and which of them an index is on.
use Rattle.std.proofs.Common.{◌≡◌, ℕ, zero, suc, ◌+◌, ◌-◌, ◌<◌, ◌≤◌, ◌⊎◌, inl, inr, List, [], ◌∷◌, ◌++◌, map, length, get_or, take, drop, refl, sym, ap, ◌∙◌, arith, add-one}
use Rattle.std.specs.Prelude.{slice_set}
use Rattle.std.specs.List.{All, insert, remove}
use Rattle.std.proofs.lemmas.List.{get_or-drop, get_or_default, length-append, length-drop, take_all}
use Rattle.std.proofs.Math.Nat.{eq-or-lt_of_le}
use Rattle.shelf_kit.specs.Shelving.{IsFilled, IsShelved, Locates, begin_of, items_of, items_on, starts_from}
use Rattle.shelf_kit.specs.declared.shelf.Shelf.{Shelf}

module _ {A : Type 0} where
  pub length_starts : (n : ℕ) (xs : List (Shelf A)) → length (starts_from n xs) ≡ length xs
  length_starts n [] = refl
  length_starts n (x ∷ xs) = ap suc (length_starts (n + length (items_of x)) xs)

  pub start_is : (n : ℕ) (xs : List (Shelf A)) (s : ℕ) → s < length xs → get_or (starts_from n xs) s 0 ≡ n + begin_of xs s
  start_is n [] s h = absurd (omega arith)
  start_is n (x ∷ xs) zero h = omega arith
  start_is n (x ∷ xs) (suc s) h =
      let rest = start_is (n + length (items_of x)) xs s (omega arith) in
      let both = length-append (items_of x) (items_on (take s xs)) in
      omega (arith, rest, both)

  pub begin_next : (xs : List (Shelf A)) (s : ℕ) (x : Shelf A) → s < length xs → x ≡ get_or xs s x → begin_of xs (suc s) ≡ begin_of xs s + length (items_of x)
  begin_next [] s x h at = absurd (omega arith)
  begin_next (y ∷ xs) zero x h at =
      let same : length (items_of x) ≡ length (items_of y) = ap (λ (z : Shelf A). length (items_of z)) at in
      let both = length-append (items_of y) [] in
      omega (arith, same, both)
  begin_next (y ∷ xs) (suc s) x h at =
      let rest = begin_next xs s x (omega arith) at in
      let one = length-append (items_of y) (items_on (take (suc s) xs)) in
      let two = length-append (items_of y) (items_on (take s xs)) in
      omega (arith, rest, one, two)

  pub begin_all : (xs : List (Shelf A)) (n : ℕ) → length xs ≡ n → begin_of xs n ≡ length (items_on xs)
  begin_all xs n e = ap (λ l. length (items_on l)) (take_all n xs (omega (arith, e)))

  pub start_at : (xs : List (Shelf A)) (s : ℕ) → s < length xs → get_or (starts_from 0 xs) s 0 ≡ begin_of xs s
  start_at xs s h = let e = start_is 0 xs s h in omega (arith, e)

  -- a start that was read
  pub start_read : (xs : List (Shelf A)) (starts : List ℕ) (s start : ℕ) → starts ≡ starts_from 0 xs → s < length xs → start ≡ get_or starts s start → start ≡ get_or (starts_from 0 xs) s 0
  start_read xs starts s start begins h e =
      e ∙ get_or_default starts s start 0 (let long = ap length begins ∙ length_starts 0 xs in omega (arith, long, h)) ∙ ap (λ (l : List ℕ). get_or l s 0) begins

  ended : (xs : List (Shelf A)) (starts : List ℕ) (len : ℕ) → IsShelved xs starts len → (s index : ℕ) → s < length xs → (s + 1 < length starts → index < get_or starts (s + 1) 0) → (index < begin_of xs (suc s)) ⊎ (begin_of xs (suc s) ≡ len)
  ended xs starts len is s index within until =
      elim (eq-or-lt_of_le {n = suc s} {m = length xs} within) [
        | inl last ↦ inr (begin_all xs (suc s) (sym last) ∙ sym is.counted)
        | inr more ↦
            let long : length starts ≡ length xs = ap length is.begins ∙ length_starts 0 xs in
            let there : get_or starts (suc s) 0 ≡ begin_of xs (suc s) = ap (λ (l : List ℕ). get_or l (suc s) 0) is.begins ∙ start_at xs (suc s) more in
            let low : index < get_or starts (s + 1) 0 = until (omega (arith, long, more)) in
            let same : get_or starts (s + 1) 0 ≡ get_or starts (suc s) 0 = ap (λ k. get_or starts k 0) (add-one s) in
            inl (omega (arith, there, low, same))
      ]

  -- the shelf of an index
  pub located : (xs : List (Shelf A)) (starts : List ℕ) (len : ℕ) → IsShelved xs starts len → (s start index : ℕ) → s < length starts → start ≡ get_or starts s 0 → start ≤ index → (s + 1 < length starts → index < get_or starts (s + 1) 0) → index ≤ len → Locates xs len index s (index - start)
  located xs starts len is s start index h e from until up_to =
      let long : length starts ≡ length xs = ap length is.begins ∙ length_starts 0 xs in
      let within : s < length xs = omega (arith, long, h) in
      let here : start ≡ begin_of xs s = e ∙ ap (λ (l : List ℕ). get_or l s 0) is.begins ∙ start_at xs s within in
      let end = ended xs starts len is s index within until in
      record {
        within = within;
        place = omega (arith, here, from);
        inside = λ x at l. let next = begin_next xs s x within at in elim end [ inl a ↦ omega (arith, a, next, here, from, l) | inr b ↦ omega (arith, b, next, here, from, l) ];
        fits = λ x at. let next = begin_next xs s x within at in elim end [ inl a ↦ omega (arith, a, next, here, from, up_to) | inr b ↦ omega (arith, b, next, here, from, up_to) ];
      }

  -- all starts move by one
  starts_up : (n : ℕ) (xs : List (Shelf A)) → starts_from (n + 1) xs ≡ map (λ k. k + 1) (starts_from n xs)
  starts_up n [] = refl
  starts_up n (x ∷ xs) = ap (λ l. (n + 1) ∷ l) (ap (λ k. starts_from k xs) (moved n (length (items_of x))) ∙ starts_up (n + length (items_of x)) xs)
    where
      moved : (n k : ℕ) → n + 1 + k ≡ n + k + 1
      moved n k = omega arith

  starts_down : (n : ℕ) (xs : List (Shelf A)) → starts_from n xs ≡ map (λ k. k - 1) (starts_from (n + 1) xs)
  starts_down n [] = refl
  starts_down n (x ∷ xs) = (λ i. back n i ∷ starts_down (n + length (items_of x)) xs i) ∙ ap (λ k. (n + 1 - 1) ∷ map (λ k. k - 1) (starts_from k xs)) (moved n (length (items_of x)))
    where
      back : (n : ℕ) → n ≡ n + 1 - 1
      back n = omega arith

      moved : (n k : ℕ) → n + k + 1 ≡ n + 1 + k
      moved n k = omega arith

  pub starts_put : (n : ℕ) (xs : List (Shelf A)) (s : ℕ) (old new : Shelf A) → s < length xs → old ≡ get_or xs s old → length (items_of new) ≡ length (items_of old) + 1
      → starts_from n (slice_set xs s new) ≡ take (suc s) (starts_from n xs) ++ map (λ k. k + 1) (drop (suc s) (starts_from n xs))
  starts_put n [] s old new h at more = absurd (omega arith)
  starts_put n (x ∷ xs) zero old new h at more =
      let same : length (items_of old) ≡ length (items_of x) = ap (λ (z : Shelf A). length (items_of z)) at in
      let e : n + length (items_of new) ≡ n + length (items_of x) + 1 = omega (arith, same, more) in
      ap (λ l. n ∷ l) (ap (λ k. starts_from k xs) e ∙ starts_up (n + length (items_of x)) xs)
  starts_put n (x ∷ xs) (suc s) old new h at more = ap (λ l. n ∷ l) (starts_put (n + length (items_of x)) xs s old new (omega arith) at more)

  pub starts_taken : (n : ℕ) (xs : List (Shelf A)) (s : ℕ) (old new : Shelf A) → s < length xs → old ≡ get_or xs s old → length (items_of new) + 1 ≡ length (items_of old)
      → starts_from n (slice_set xs s new) ≡ take (suc s) (starts_from n xs) ++ map (λ k. k - 1) (drop (suc s) (starts_from n xs))
  starts_taken n [] s old new h at less = absurd (omega arith)
  starts_taken n (x ∷ xs) zero old new h at less =
      let same : length (items_of old) ≡ length (items_of x) = ap (λ (z : Shelf A). length (items_of z)) at in
      let e : n + length (items_of new) + 1 ≡ n + length (items_of x) = omega (arith, same, less) in
      ap (λ l. n ∷ l) (starts_down (n + length (items_of new)) xs ∙ ap (λ k. map (λ k. k - 1) (starts_from k xs)) e)
  starts_taken n (x ∷ xs) (suc s) old new h at less = ap (λ l. n ∷ l) (starts_taken (n + length (items_of x)) xs s old new (omega arith) at less)

  pub starts_split : (n : ℕ) (xs : List (Shelf A)) (s : ℕ) (old one two : Shelf A) → s < length xs → old ≡ get_or xs s old → length (items_of one) + length (items_of two) ≡ length (items_of old)
      → starts_from n (insert (slice_set xs s one) (suc s) two) ≡ insert (starts_from n xs) (suc s) (get_or (starts_from n xs) s 0 + length (items_of one))
  starts_split n [] s old one two h at sum = absurd (omega arith)
  starts_split n (x ∷ xs) zero old one two h at sum =
      let same : length (items_of old) ≡ length (items_of x) = ap (λ (z : Shelf A). length (items_of z)) at in
      let e : n + length (items_of one) + length (items_of two) ≡ n + length (items_of x) = omega (arith, same, sum) in
      ap (λ k. n ∷ (n + length (items_of one)) ∷ starts_from k xs) e
  starts_split n (x ∷ xs) (suc s) old one two h at sum = ap (λ l. n ∷ l) (starts_split (n + length (items_of x)) xs s old one two (omega arith) at sum)

  -- a shelf of one length in the place of another
  pub starts_same : (n : ℕ) (xs : List (Shelf A)) (s : ℕ) (old new : Shelf A) → s < length xs → old ≡ get_or xs s old → length (items_of new) ≡ length (items_of old) → starts_from n (slice_set xs s new) ≡ starts_from n xs
  starts_same n [] s old new h at same = absurd (omega arith)
  starts_same n (x ∷ xs) zero old new h at same = ap (λ k. n ∷ starts_from (n + k) xs) (same ∙ ap (λ (z : Shelf A). length (items_of z)) at)
  starts_same n (x ∷ xs) (suc s) old new h at same = ap (λ l. n ∷ l) (starts_same (n + length (items_of x)) xs s old new (omega arith) at same)

  -- an empty shelf begins where the next does
  pub starts_gone : (n : ℕ) (xs : List (Shelf A)) (s : ℕ) (new : Shelf A) → s < length xs → length (items_of new) ≡ 0
      → starts_from n (remove (slice_set xs s new) s) ≡ remove (starts_from n (slice_set xs s new)) s
  starts_gone n [] s new h none = absurd (omega arith)
  starts_gone n (x ∷ xs) zero new h none =
      let e : n ≡ n + length (items_of new) = omega (arith, none) in
      ap (λ k. starts_from k xs) e
  starts_gone n (x ∷ xs) (suc s) new h none = ap (λ l. n ∷ l) (starts_gone (n + length (items_of x)) xs s new (omega arith) none)

  starts_most : (n : ℕ) (xs : List (Shelf A)) (k : ℕ) → get_or (starts_from n xs) k 0 ≤ n + length (items_on xs)
  starts_most n [] k = omega arith
  starts_most n (x ∷ xs) zero = omega arith
  starts_most n (x ∷ xs) (suc k) =
      let rest = starts_most (n + length (items_of x)) xs k in
      let both = length-append (items_of x) (items_on xs) in
      omega (arith, rest, both)

  starts_least : (n : ℕ) (xs : List (Shelf A)) (k : ℕ) → k < length xs → n ≤ get_or (starts_from n xs) k 0
  starts_least n [] k h = absurd (omega arith)
  starts_least n (x ∷ xs) zero h = omega arith
  starts_least n (x ∷ xs) (suc k) h = let rest = starts_least (n + length (items_of x)) xs k (omega arith) in omega (arith, rest)

  starts_some : (n : ℕ) (xs : List (Shelf A)) (k : ℕ) → All IsFilled xs → 0 < k → k < length xs → 0 < get_or (starts_from n xs) k 0
  starts_some n [] k filled some h = absurd (omega arith)
  starts_some n (x ∷ xs) zero filled some h = absurd (omega arith)
  starts_some n (x ∷ xs) (suc k) filled some h =
      let first : 0 < length (items_of x) = (filled 0 x (omega arith)).some in
      let rest = starts_least (n + length (items_of x)) xs k (omega arith) in
      omega (arith, first, rest)

  -- a list with values has a shelf, and the first begins at 0
  pub some_starts : (xs : List (Shelf A)) (starts : List ℕ) (len : ℕ) → IsShelved xs starts len → 0 < len → 0 < length starts
  some_starts [] starts len is h = let none = is.counted in absurd (omega (arith, none, h))
  some_starts (x ∷ xs) starts len is h = let long : length starts ≡ suc (length xs) = ap length is.begins ∙ length_starts 0 (x ∷ xs) in omega (arith, long)

  pub first_start : (xs : List (Shelf A)) (starts : List ℕ) (len : ℕ) → IsShelved xs starts len → get_or starts 0 0 ≡ 0
  first_start [] starts len is = ap (λ (l : List ℕ). get_or l 0 0) is.begins
  first_start (x ∷ xs) starts len is = ap (λ (l : List ℕ). get_or l 0 0) is.begins

  pub long_starts : (xs : List (Shelf A)) (starts : List ℕ) (len : ℕ) → IsShelved xs starts len → length starts ≡ length xs
  long_starts xs starts len is = ap length is.begins ∙ length_starts 0 xs

  start_behind : (xs : List (Shelf A)) (starts : List ℕ) (len : ℕ) → IsShelved xs starts len → (from k d : ℕ) → k < length (drop from starts) → get_or (drop from starts) k d ≡ get_or (starts_from 0 xs) (from + k) 0
  start_behind xs starts len is from k d h = get_or_default (drop from starts) k d 0 h ∙ get_or-drop from starts k 0 ∙ ap (λ (l : List ℕ). get_or l (from + k) 0) is.begins

  -- no start exceeds the number of values
  pub few_starts : (xs : List (Shelf A)) (starts : List ℕ) (len : ℕ) → IsShelved xs starts len → (from : ℕ) → All (λ n. n ≤ len) (drop from starts)
  few_starts xs starts len is from = λ k d h.
      let read = start_behind xs starts len is from k d h in
      let most = starts_most 0 xs (from + k) in
      let all = is.counted in
      omega (arith, read, most, all)

  -- each shelf behind the first begins behind 0
  pub later_starts : (xs : List (Shelf A)) (starts : List ℕ) (len : ℕ) → IsShelved xs starts len → (s : ℕ) → All (λ n. 0 < n) (drop (s + 1) starts)
  later_starts xs starts len is s = λ k d h.
      let read = start_behind xs starts len is (s + 1) k d h in
      let few = length-drop (s + 1) starts in
      let many = long_starts xs starts len is in
      let some = starts_some 0 xs (s + 1 + k) is.filled (omega arith) (omega (arith, few, many, h)) in
      omega (arith, read, some)

  pub some_at : (xs : List (Shelf A)) (s : ℕ) → s < length xs → (x : Shelf A) × (x ≡ get_or xs s x)
  some_at [] s h = absurd (omega arith)
  some_at (x ∷ xs) zero h = (x, refl)
  some_at (x ∷ xs) (suc s) h = some_at xs s (omega arith)

  pub begins_rise : (xs : List (Shelf A)) (a b : ℕ) → a ≤ b → begin_of xs a ≤ begin_of xs b
  begins_rise [] zero b h = omega arith
  begins_rise [] (suc a) b h = omega arith
  begins_rise (x ∷ xs) zero b h = omega arith
  begins_rise (x ∷ xs) (suc a) zero h = absurd (omega arith)
  begins_rise (x ∷ xs) (suc a) (suc b) h =
      let rest = begins_rise xs a b (omega arith) in
      let one = length-append (items_of x) (items_on (take a xs)) in
      let two = length-append (items_of x) (items_on (take b xs)) in
      omega (arith, rest, one, two)
