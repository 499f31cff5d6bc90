-- What a search finds on one shelf, it finds in the list.
use Rattle.std.proofs.Common.{◌≡◌, ℕ, zero, suc, ◌+◌, ◌-◌, ◌<◌, ◌≤◌, inl, inr, List, [], ◌∷◌, ◌++◌, length, get_or, true≢false, Result, Ok, Err, true, false, refl, sym, ap, subst, ◌∙◌, arith, add-one}
use Rattle.std.proofs.Math.Nat.{add-sub_cancel_left}
use Rattle.std.specs.declared.cmp.Ordering.{Ordering}
use Rattle.std.specs.declared.cmp.Ordering.TheVariants.{Less, Equal, Greater}
use Rattle.std.specs.List.{All}
use Rattle.std.specs.List.Sorted.{IsBinarySearchResult, IsNonDecreasingBy, IsPartitionPoint, IsSearchInRange}
use Rattle.std.specs.Ordering.{is_gt, ordering_index}
use Rattle.std.proofs.lemmas.Bool.{cases_lt}
use Rattle.std.proofs.lemmas.List.{get_or-append_right, get_or_append_left, length-append}
use Rattle.shelf_kit.specs.Shelved.{Shelved}
use Rattle.shelf_kit.specs.Shelving.{BeginsBehind, IsFilled, begin_of, found_behind, items_of, items_on}
use Rattle.shelf_kit.specs.declared.shelf.Shelf.{Shelf}
use Rattle.shelf_kit.proofs.Begins.{some_at}
use Rattle.shelf_kit.proofs.Pieces.{back, front, piece}

top : (o : Ordering) → 2 ≤ ordering_index o → o ≡ Greater
top Less h = absurd (omega arith)
top Equal h = absurd (omega arith)
top Greater h = refl

bottom : (o : Ordering) → ordering_index o ≤ 0 → o ≡ Less
bottom Less h = refl
bottom Equal h = absurd (omega arith)
bottom Greater h = absurd (omega arith)

is_Greater : (o : Ordering) → is_gt o ≡ true → o ≡ Greater
is_Greater Less h = absurd (true≢false (sym h))
is_Greater Equal h = absurd (true≢false (sym h))
is_Greater Greater h = refl

pub range_weaker : (r : Result ℕ ℕ) (n m : ℕ) → n ≤ m → IsSearchInRange r n → IsSearchInRange r m
range_weaker (Ok i) n m h l = omega (arith, h, l)
range_weaker (Err i) n m h l = omega (arith, h, l)

module _ {A : Type 0} (ord : A → Ordering) (before own behind : List A) (some : 0 < length own)
    (low : 0 < length before → (d : A) → is_gt (ord (get_or own 0 d)) ≡ false)
    (high : 0 < length behind → (d : A) → is_gt (ord (get_or behind 0 d)) ≡ true) where
  abbrev whole : List A
  whole = before ++ (own ++ behind)

  long : length whole ≡ length before + (length own + length behind)
  long = let one = length-append before (own ++ behind) in let two = length-append own behind in omega (arith, one, two)

  at_own : (k : ℕ) (d : A) → k < length own → get_or whole (length before + k) d ≡ get_or own k d
  at_own k d h =
      get_or-append_right before (own ++ behind) (length before) (length before + k) d refl (omega arith)
      ∙ ap (λ i. get_or (own ++ behind) i d) (add-sub_cancel_left (length before) k) ∙ get_or_append_left own behind d k h

  at_behind : (k : ℕ) (d : A) → get_or whole (length before + (length own + k)) d ≡ get_or behind k d
  at_behind k d =
      get_or-append_right before (own ++ behind) (length before) (length before + (length own + k)) d refl (omega arith)
      ∙ ap (λ i. get_or (own ++ behind) i d) (add-sub_cancel_left (length before) (length own + k))
      ∙ get_or-append_right own behind (length own) (length own + k) d refl (omega arith)
      ∙ ap (λ i. get_or behind i d) (add-sub_cancel_left (length own) k)

  module _ (up : IsNonDecreasingBy (λ y. ordering_index (ord y)) whole) where
    up_own : IsNonDecreasingBy (λ y. ordering_index (ord y)) own
    up_own i j d h l =
        let rise = up (length before + i) (length before + j) d (omega (arith, h)) (omega (arith, long, l)) in
        subst (λ x. ordering_index (ord x) ≤ ordering_index (ord (get_or own j d))) (at_own i d (omega (arith, h, l)))
        (subst (λ x. ordering_index (ord (get_or whole (length before + i) d)) ≤ ordering_index (ord x)) (at_own j d l) rise)

    all_behind : (k : ℕ) (d : A) → length before + length own ≤ k → k < length whole → ord (get_or whole k d) ≡ Greater
    all_behind k d h l =
        let some : 0 < length behind = omega (arith, long, h, l) in
        let first : ord (get_or whole (length before + (length own + 0)) d) ≡ Greater = ap ord (at_behind 0 d) ∙ is_Greater _ (high some d) in
        let rise = up (length before + (length own + 0)) k d (omega (arith, h)) l in
        top _ (subst (λ o. ordering_index o ≤ ordering_index (ord (get_or whole k d))) first rise)

    all_before : (at : ℕ) → IsPartitionPoint (λ y. ord y ≡ Less) (λ y. ord y ≡ Greater) own at → (k : ℕ) (d : A) → k < length before → ord (get_or whole k d) ≡ Less
    all_before zero parts k d h = absurd (true≢false (sym (ap is_gt (parts.1 0 d (omega arith) some)) ∙ low (omega (arith, h)) d))
    all_before (suc at) parts k d h =
        let first : ord (get_or whole (length before + 0) d) ≡ Less = ap ord (at_own 0 d some) ∙ parts.0 0 d (omega arith) (omega arith) in
        let rise = up k (length before + 0) d (omega (arith, h)) (omega (arith, long, some)) in
        bottom _ (subst (λ o. ordering_index (ord (get_or whole k d)) ≤ ordering_index o) first rise)

    in_parts : (at : ℕ) → at ≤ length own → IsPartitionPoint (λ y. ord y ≡ Less) (λ y. ord y ≡ Greater) own at → IsPartitionPoint (λ y. ord y ≡ Less) (λ y. ord y ≡ Greater) whole (length before + at)
    in_parts at within parts = (
      λ k d _ h. elim (cases_lt k (length before)) [
        | inl l ↦ all_before at parts k d l
        | inr l ↦
            let e : k ≡ length before + (k - length before) = omega (arith, l) in
            ap (λ i. ord (get_or whole i d)) e ∙ ap ord (at_own (k - length before) d (omega (arith, h, l, within))) ∙ parts.0 (k - length before) d (omega arith) (omega (arith, h, l))
      ],
      λ k d h l. elim (cases_lt k (length before + length own)) [
        | inl m ↦
            let e : k ≡ length before + (k - length before) = omega (arith, h) in
            ap (λ i. ord (get_or whole i d)) e ∙ ap ord (at_own (k - length before) d (omega (arith, h, m))) ∙ parts.1 (k - length before) d (omega (arith, h)) (omega (arith, h, m))
        | inr m ↦ all_behind k d m l
      ],
    )

  in_range : (r : Result ℕ ℕ) → IsSearchInRange r (length own) → IsSearchInRange (found_behind (length before) r) (length whole)
  in_range (Ok i) h = omega (arith, long, h)
  in_range (Err i) h = omega (arith, long, h)

  found_in : (r : Result ℕ ℕ) → IsSearchInRange r (length own) → IsBinarySearchResult ord own r → IsBinarySearchResult ord whole (found_behind (length before) r)
  found_in (Ok i) h is = λ d. ap ord (at_own i d h) ∙ is d
  found_in (Err i) h is = λ up. in_parts up i h (is (up_own up))

module _ {A : Type 0} where
  back_begins : (xs : List (Shelf A)) (s : ℕ) (y : Shelf A) → suc s < length xs → y ≡ get_or xs (suc s) y → back items_of xs s ≡ items_of y ++ back items_of xs (suc s)
  back_begins [] s y h e = absurd (omega arith)
  back_begins (x ∷ []) zero y h e = absurd (omega arith)
  back_begins (x ∷ (z ∷ xs)) zero y h e = ap (λ (w : Shelf A). items_of w ++ items_on xs) (sym e)
  back_begins (x ∷ xs) (suc s) y h e = back_begins xs s y (omega arith) e

  back_none : (xs : List (Shelf A)) (s : ℕ) → length xs ≤ suc s → back items_of xs s ≡ []
  back_none [] s h = refl
  back_none (x ∷ []) zero h = refl
  back_none (x ∷ (y ∷ xs)) zero h = absurd (omega arith)
  back_none (x ∷ xs) (suc s) h = back_none xs s (omega arith)

  module _ (ord : A → Ordering) (xs : List (Shelf A)) (s : ℕ) (x : Shelf A) (h : s < length xs) (at : x ≡ get_or xs s x) (filled : All IsFilled xs)
      (low : 0 < s → BeginsBehind ord xs s false) (high : s + 1 < length xs → BeginsBehind ord xs (s + 1) true) where
    own : 0 < length (items_of x)
    own = (subst (λ (y : Shelf A). IsFilled y) (sym at) (filled s x h)).some

    is_low : 0 < length (front items_of xs s) → (d : A) → is_gt (ord (get_or (items_of x) 0 d)) ≡ false
    is_low some d = by s refl
      where
        by : (t : ℕ) → t ≡ s → is_gt (ord (get_or (items_of x) 0 d)) ≡ false
        by zero e = absurd (let none : length (front items_of xs s) ≡ 0 = ap (λ t. length (front items_of xs t)) (sym e) in omega (arith, none, some))
        by (suc t) e = low (omega (arith, e)) x d at

    is_high : 0 < length (back items_of xs s) → (d : A) → is_gt (ord (get_or (back items_of xs s) 0 d)) ≡ true
    is_high some d =
        let more : suc s < length xs = elim (cases_lt (suc s) (length xs)) [ inl l ↦ l | inr l ↦ absurd (let none = ap length (back_none xs s l) in omega (arith, none, some)) ] in
        let y = some_at xs (suc s) more in
        let first : 0 < length (items_of y.0) = (subst (λ (z : Shelf A). IsFilled z) (sym y.1) (filled (suc s) y.0 more)).some in
        let read : get_or (back items_of xs s) 0 d ≡ get_or (items_of y.0) 0 d = ap (λ (l : List A). get_or l 0 d) (back_begins xs s y.0 more y.1) ∙ get_or_append_left (items_of y.0) (back items_of xs (suc s)) d 0 first in
        ap (λ a. is_gt (ord a)) read ∙ high (omega (arith, more)) y.0 d (y.1 ∙ ap (λ k. get_or xs k y.0) (sym (add-one s)))

    -- in terms of what a contract sees
    module _ (v : Shelved A) (sees : items_on xs ≡ v.items) (start : ℕ) (begins : start ≡ begin_of xs s) (r : Result ℕ ℕ) (range : IsSearchInRange r (length (items_of x))) where
      pub range_seen : IsSearchInRange (found_behind start r) (length v.items)
      range_seen =
          subst (λ n. IsSearchInRange (found_behind n r) (length v.items)) (sym begins)
          (subst (λ (l : List A). IsSearchInRange (found_behind (begin_of xs s) r) (length l)) (sym (piece items_of xs s x h at) ∙ sees)
          (in_range ord (front items_of xs s) (items_of x) (back items_of xs s) own is_low is_high r range))

      pub found_seen : IsBinarySearchResult ord (items_of x) r → IsBinarySearchResult ord v.items (found_behind start r)
      found_seen is =
          subst (λ n. IsBinarySearchResult ord v.items (found_behind n r)) (sym begins)
          (subst (λ (l : List A). IsBinarySearchResult ord l (found_behind (begin_of xs s) r)) (sym (piece items_of xs s x h at) ∙ sees)
          (found_in ord (front items_of xs s) (items_of x) (back items_of xs s) own is_low is_high r range is))
