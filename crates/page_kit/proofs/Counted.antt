-- How many values are not above a bound, one bucket or one cell more at a time.
use Rattle.std.proofs.Common.{◌≡◌, ℕ, ℤ, ◌+◌, ◌^◌, ◌<◌, ◌≤◌, Bool, true, false, cond, List, [], ◌∷◌, length, drop, get_or, inl, inr, refl, ap, ◌∙◌, arith}
use Rattle.std.specs.Prelude.{int_le}
use Rattle.std.proofs.lemmas.Bool.{cases_lt}
use Rattle.std.proofs.lemmas.List.{drop_more, drop_all, get_or_past}
use Rattle.page_kit.specs.Bounds.{count_up_to, within_room}

nothing_up_to : (bound : ℤ) (limits : List ℤ) → count_up_to bound limits [] ≡ 0
nothing_up_to bound [] = refl
nothing_up_to bound (l ∷ ls) = refl

within : (bound : ℤ) (limits : List ℤ) (buckets : List ℕ) (i : ℕ) (d : ℤ) → i < length limits → i < length buckets
    → count_up_to bound (drop i limits) (drop i buckets) ≡ cond (int_le (get_or limits i d) bound) (get_or buckets i 0) 0 + count_up_to bound (drop (i + 1) limits) (drop (i + 1) buckets)
within bound limits buckets i d h k =
    ap (λ (ls : List ℤ). count_up_to bound ls (drop i buckets)) (drop_more limits i d h)
    ∙ ap (count_up_to bound (get_or limits i d ∷ drop (i + 1) limits)) (drop_more buckets i 0 k)

no_count : (b : Bool) (n : ℕ) → n ≡ 0 → cond b n 0 ≡ 0
no_count true n e = e
no_count false n e = refl

past : (bound : ℤ) (limits : List ℤ) (buckets : List ℕ) (i : ℕ) (d : ℤ) → length buckets ≤ i
    → count_up_to bound (drop i limits) (drop i buckets) ≡ cond (int_le (get_or limits i d) bound) (get_or buckets i 0) 0 + count_up_to bound (drop (i + 1) limits) (drop (i + 1) buckets)
past bound limits buckets i d h =
    let here = ap (count_up_to bound (drop i limits)) (drop_all i buckets h) ∙ nothing_up_to bound (drop i limits) in
    let next = ap (count_up_to bound (drop (i + 1) limits)) (drop_all (i + 1) buckets (omega arith)) ∙ nothing_up_to bound (drop (i + 1) limits) in
    let none = no_count (int_le (get_or limits i d) bound) (get_or buckets i 0) (get_or_past buckets i 0 h) in
    omega (arith, here, next, none)

-- the bucket at a place, if there is one, and those behind it
pub up_to_more : (bound : ℤ) (limits : List ℤ) (buckets : List ℕ) (i : ℕ) (d : ℤ) → i < length limits
    → count_up_to bound (drop i limits) (drop i buckets) ≡ cond (int_le (get_or limits i d) bound) (get_or buckets i 0) 0 + count_up_to bound (drop (i + 1) limits) (drop (i + 1) buckets)
up_to_more bound limits buckets i d h =
    elim (cases_lt i (length buckets)) [ inl k ↦ within bound limits buckets i d h k | inr k ↦ past bound limits buckets i d k ]

pub room_more : (a b c : ℕ) → within_room (within_room (a + b) + c) ≡ within_room (a + (b + c))
room_more a b c = omega arith

-- a count has room
pub nothing_left : (n m : ℕ) → n < 2 ^ 128 → m ≡ 0 → n ≡ within_room (n + m)
nothing_left n m h e = omega arith
