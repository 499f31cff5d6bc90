-- No total leaves its range.
use Rattle.std.proofs.Common.{◌≡◌, ℕ, ℤ, pos, ◌+◌, ◌*◌, ◌^◌, ◌<◌, ◌≤◌, ◌+ℤ◌, ◌-ℤ◌, ◌≤ℤ◌, List, slice_index, get_or, FitsSigned, w64, sym, subst, arith}
use Rattle.std.proofs.lemmas.Int.{ints}
use Rattle.rollup_kit.specs.Counts.{counts_from, add_each}
use Rattle.rollup_kit.specs.Groups.{IsBounded}
use Rattle.rollup_kit.proofs.Counts.{get_or-no_counts, get_or-add_each}

sum_above : (s v : ℤ) (p : ℕ) → (pos 0 -ℤ pos (p * 2 ^ 63)) ≤ℤ s → FitsSigned w64 v → (pos 0 -ℤ pos ((p + 1) * 2 ^ 63)) ≤ℤ (s +ℤ v)
sum_above s v p h f = omega (arith, ints)

sum_below : (s v : ℤ) (p : ℕ) → s ≤ℤ pos (p * 2 ^ 63) → FitsSigned w64 v → (s +ℤ v) ≤ℤ pos ((p + 1) * 2 ^ 63)
sum_below s v p h f = omega (arith, ints)

count_more : (n m p : ℕ) → n ≤ p * 2 ^ 64 → m < 2 ^ 64 → n + m ≤ (p + 1) * 2 ^ 64
count_more n m p h f = omega arith

pub none_bounded : (n : ℕ) → IsBounded (pos 0) 0 (counts_from 0 n (λ _. 0)) 0
none_bounded n = record { above = omega (arith, ints); below = omega (arith, ints); counts = omega arith; each = λ place. omega (arith, get_or-no_counts 0 n place) }

each_bounded : (b : List ℕ) (c : ℕ → ℕ) (p : ℕ) → ((place : ℕ) → slice_index b place ≤ p * 2 ^ 64) → ((place : ℕ) → c place < 2 ^ 64) → (place : ℕ) → slice_index (add_each 0 b c) place ≤ (p + 1) * 2 ^ 64
each_bounded b c p h f place =
    let here : get_or (add_each 0 b c) place 0 ≤ get_or b place 0 + c place = get_or-add_each b c place in
    let mine : get_or b place 0 ≤ p * 2 ^ 64 = h place in
    let more : c place < 2 ^ 64 = f place in
    omega arith

pub histogram_bounded : (s v : ℤ) (n m : ℕ) (b : List ℕ) (c : ℕ → ℕ) (p : ℕ) → IsBounded s n b p → FitsSigned w64 v → m < 2 ^ 64 → ((place : ℕ) → c place < 2 ^ 64) → IsBounded (s +ℤ v) (n + m) (add_each 0 b c) (p + 1)
histogram_bounded s v n m b c p h f g e = record { above = sum_above s v p h.above f; below = sum_below s v p h.below f; counts = count_more n m p h.counts g; each = each_bounded b c p h.each e }

-- the same of numbers that are equal to these
pub histogram_at : (s v : ℤ) (n m : ℕ) (b : List ℕ) (c : ℕ → ℕ) (p : ℕ) → IsBounded s n b p → FitsSigned w64 v → m < 2 ^ 64 → ((place : ℕ) → c place < 2 ^ 64)
    → (sum : ℤ) (count : ℕ) (buckets : List ℕ) → sum ≡ s +ℤ v → count ≡ n + m → buckets ≡ add_each 0 b c → IsBounded sum count buckets (p + 1)
histogram_at s v n m b c p h f g e sum count buckets x y z = let bounded = histogram_bounded s v n m b c p h f g e in subst (λ (sum : ℤ). IsBounded sum count buckets (p + 1)) (sym x) (subst (λ (count : ℕ). IsBounded (s +ℤ v) count buckets (p + 1)) (sym y) (subst (λ (buckets : List ℕ). IsBounded (s +ℤ v) (n + m) buckets (p + 1)) (sym z) bounded))
