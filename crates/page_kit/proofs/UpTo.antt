-- How many of recorded values are not above a bound, by the buckets that they fall into.
use Rattle.std.proofs.Common.{◌≡◌, ℕ, ℤ, zero, suc, ◌+◌, ◌<◌, ◌==◌, Bool, true, false, cond, inl, inr, List, [], ◌∷◌, map, length, refl, sym, ap, ◌∙◌, arith}
use Rattle.std.specs.Prelude.{count_by, int_lt, int_le}
use Rattle.std.specs.List.{range_with_len}
use Rattle.std.proofs.lemmas.Bool.{and_parts}
use Rattle.std.proofs.lemmas.Bool.Decides.{nat_tests}
use Rattle.std.proofs.lemmas.Int.{ints}
use Rattle.std.proofs.lemmas.List.Sums.{sum_by-cons}
use Rattle.agg_kit.specs.Payloads.{bucket, buckets}
use Rattle.plan_kit.specs.Bounds.{rise}
use Rattle.schedule_kit.specs.Members.{In}
use Rattle.schedule_kit.specs.Totals.{total}
use Rattle.page_kit.specs.Bounds.{count_up_to}

-- the counts at places from one on, of the bounds that are not above this one
abbrev below : ℤ → List ℤ → ℕ → (ℕ → ℕ) → ℕ
below bound [] place count = 0
below bound (l ∷ ls) place count = cond (int_le l bound) (count place) 0 + below bound ls (place + 1) count

counted_by_place : (bound : ℤ) (ls : List ℤ) (place n : ℕ) (count : ℕ → ℕ) → length ls < n → count_up_to bound ls (map count (range_with_len place n)) ≡ below bound ls place count
counted_by_place bound [] place n count h = refl
counted_by_place bound (l ∷ ls) place zero count h = absurd (omega arith)
counted_by_place bound (l ∷ ls) place (suc n) count h = ap (λ m. cond (int_le l bound) (count place) 0 + m) (counted_by_place bound ls (place + 1) n count (omega arith))

below_same : (bound : ℤ) (ls : List ℤ) (place : ℕ) (c d : ℕ → ℕ) → ((j : ℕ) → c j ≡ d j) → below bound ls place c ≡ below bound ls place d
below_same bound [] place c d h = refl
below_same bound (l ∷ ls) place c d h = ap (λ n. cond (int_le l bound) n 0 + below bound ls (place + 1) c) (h place) ∙ ap (λ n. cond (int_le l bound) (d place) 0 + n) (below_same bound ls (place + 1) c d h)

both_at : (b : Bool) (c d m n : ℕ) → cond b (c + d) 0 + (m + n) ≡ (cond b c 0 + m) + (cond b d 0 + n)
both_at true c d m n = omega arith
both_at false c d m n = omega arith

below_plus : (bound : ℤ) (ls : List ℤ) (place : ℕ) (c d : ℕ → ℕ) → below bound ls place (λ j. c j + d j) ≡ below bound ls place c + below bound ls place d
below_plus bound [] place c d = omega arith
below_plus bound (l ∷ ls) place c d =
    ap (λ n. cond (int_le l bound) (c place + d place) 0 + n) (below_plus bound ls (place + 1) c d)
    ∙ both_at (int_le l bound) (c place) (d place) (below bound ls (place + 1) c) (below bound ls (place + 1) d)

none_at : (b : Bool) → ◌≡◌ {A = ℕ} (cond b 0 0) 0
none_at true = refl
none_at false = refl

nothing_below : (bound : ℤ) (ls : List ℤ) (place : ℕ) → below bound ls place (λ _. 0) ≡ 0
nothing_below bound [] place = refl
nothing_below bound (l ∷ ls) place = let here = none_at (int_le l bound) in let later = nothing_below bound ls (place + 1) in omega (arith, here, later)

-- the one value whose bucket is at this place
abbrev at_place : ℕ → ℕ → ℕ
at_place place j = cond (place == j) 1 0

apart : (m n : ℕ) → m < n → (m == n) ≡ false
apart m n h = grind (arith, nat_tests)

itself : (n : ℕ) → (n == n) ≡ true
itself n = grind (arith, nat_tests)

-- at another place it does not count
elsewhere : (b : Bool) (m n : ℕ) → (m == n) ≡ false → cond b (at_place m n) 0 ≡ 0
elsewhere b m n e = ap (λ c. cond b (cond c 1 0) 0) e ∙ none_at b

-- no place further on is its
passed : (bound : ℤ) (ls : List ℤ) (place k : ℕ) → k < place → below bound ls place (at_place k) ≡ 0
passed bound [] place k h = refl
passed bound (l ∷ ls) place k h =
    let here : cond (int_le l bound) (at_place k place) 0 ≡ 0 = elsewhere (int_le l bound) k place (apart k place h) in
    let later = passed bound ls (place + 1) k (omega arith) in omega (arith, here, later)

-- all are above a number
abbrev AreAbove : ℤ → List ℤ → Type 0
AreAbove l ls = (x : ℤ) → In x ls → int_lt l x ≡ true

lt_trans : (a b c : ℤ) → int_lt a b ≡ true → int_lt b c ≡ true → int_lt a c ≡ true
lt_trans a b c h k = grind (arith, ints)

rising_above : (l : ℤ) (ls : List ℤ) → rise (l ∷ ls) ≡ true → AreAbove l ls
rising_above l [] h x i = absurd i
rising_above l (m ∷ ls) h x i = go (rising_above m ls (and_parts (int_lt l m) (rise (m ∷ ls)) h).1) i
  where
    first : int_lt l m ≡ true
    first = (and_parts (int_lt l m) (rise (m ∷ ls)) h).0

    go : AreAbove m ls → In x (m ∷ ls) → int_lt l x ≡ true
    go later (inl e) = ap (λ y. int_lt l y) e ∙ first
    go later (inr j) = lt_trans l m x first (later x j)

le_of_lt : (a b c : ℤ) → int_lt a b ≡ true → int_le c a ≡ true → int_lt b c ≡ false
le_of_lt a b c h k = grind (arith, ints)

not_le : (a b : ℤ) → int_lt a b ≡ true → int_le b a ≡ false
not_le a b h = grind (arith, ints)

not_lt : (v l m : ℤ) → int_lt l v ≡ false → int_lt l m ≡ true → int_lt m v ≡ false
not_lt v l m h k = grind (arith, ints)

le_first : (v l b : ℤ) → int_lt l v ≡ false → int_le l b ≡ true → int_le v b ≡ true
le_first v l b h k = grind (arith, ints)

le_itself : (a : ℤ) → int_le a a ≡ true
le_itself a = grind (arith, ints)

le_below : (a b : ℤ) → int_lt a b ≡ true → int_le a b ≡ true
le_below a b h = grind (arith, ints)

-- none of bounds above this one counts
all_above : (bound : ℤ) (ls : List ℤ) (place : ℕ) (c : ℕ → ℕ) → AreAbove bound ls → below bound ls place c ≡ 0
all_above bound [] place c h = refl
all_above bound (l ∷ ls) place c h =
    let here : cond (int_le l bound) (c place) 0 ≡ 0 = ap (λ b. cond b (c place) 0) (not_le bound l (h l (inl refl))) in
    let later = all_above bound ls (place + 1) c (λ x i. h x (inr i)) in omega (arith, here, later)

bucket_cons : (l : ℤ) (ls : List ℤ) (v : ℤ) → bucket (l ∷ ls) v ≡ cond (int_lt l v) 1 0 + bucket ls v
bucket_cons l ls v = sum_by-cons (λ b. cond (int_lt b v) 1 0) l ls

-- a value that is not above the least bound falls into the first bucket
first_bucket : (v l : ℤ) (ls : List ℤ) → int_lt l v ≡ false → AreAbove l ls → bucket ls v ≡ 0
first_bucket v l [] h above = refl
first_bucket v l (m ∷ ls) h above =
    let here : ◌≡◌ {A = ℕ} (cond (int_lt m v) 1 0) 0 = ap (λ b. cond b 1 0) (not_lt v l m h (above m (inl refl))) in
    let later = first_bucket v l ls h (λ x i. above x (inr i)) in
    let all = bucket_cons m ls v in omega (arith, here, later, all)

zero_and : (m n : ℕ) → m ≡ 0 → m + n ≡ n
zero_and m n e = omega arith

one_and : (m n : ℕ) → m ≡ 1 → n ≡ 0 → m + n ≡ 1
one_and m n e f = omega arith

-- a value counts up to a bound where it is not above it
one_value : (bound v : ℤ) (ls : List ℤ) (place : ℕ) → rise ls ≡ true → In bound ls → below bound ls place (at_place (place + bucket ls v)) ≡ cond (int_le v bound) 1 0
one_value bound v [] place up i = absurd i
one_value bound v (l ∷ ls) place up i = go (int_lt l v) refl (one_value bound v ls (place + 1) (and_parts _ (rise ls) up).1) i
  where
    all : bucket (l ∷ ls) v ≡ cond (int_lt l v) 1 0 + bucket ls v
    all = bucket_cons l ls v

    go : (b : Bool) → int_lt l v ≡ b → (In bound ls → below bound ls (place + 1) (at_place ((place + 1) + bucket ls v)) ≡ cond (int_le v bound) 1 0) → In bound (l ∷ ls) → below bound (l ∷ ls) place (at_place (place + bucket (l ∷ ls) v)) ≡ cond (int_le v bound) 1 0
    go true above rest j =
        let at : bucket (l ∷ ls) v ≡ 1 + bucket ls v = all ∙ ap (λ b. cond b 1 0 + bucket ls v) above in
        let moved : place + bucket (l ∷ ls) v ≡ (place + 1) + bucket ls v = omega (arith, at) in
        let unlike : ((place + 1) + bucket ls v == place) ≡ false = grind (arith, nat_tests) in
        let none : cond (int_le l bound) (at_place ((place + 1) + bucket ls v) place) 0 ≡ 0 = elsewhere (int_le l bound) ((place + 1) + bucket ls v) place unlike in
        let later : below bound ls (place + 1) (at_place ((place + 1) + bucket ls v)) ≡ cond (int_le v bound) 1 0 = elim j [
          | inl same ↦
              all_above bound ls (place + 1) (at_place ((place + 1) + bucket ls v)) (λ x k. ap (λ y. int_lt y x) same ∙ rising_above l ls up x k)
              ∙ ap (λ b. cond b 1 0) (sym (ap (λ y. int_le v y) same ∙ not_le l v above))
          | inr k ↦ rest k
        ] in
        ap (λ n. below bound (l ∷ ls) place (at_place n)) moved ∙ zero_and _ _ none ∙ later
    go false within rest j =
        let at : bucket (l ∷ ls) v ≡ 0 = all ∙ ap (λ b. cond b 1 0 + bucket ls v) within ∙ (let z = first_bucket v l ls within (rising_above l ls up) in omega (arith, z)) in
        let here : place + bucket (l ∷ ls) v ≡ place = omega (arith, at) in
        let low : int_le l bound ≡ true = elim j [ inl same ↦ ap (λ y. int_le l y) same ∙ le_itself l | inr k ↦ le_below l bound (rising_above l ls up bound k) ] in
        let one : cond (int_le l bound) (at_place place place) 0 ≡ 1 = ap (λ b. cond b (at_place place place) 0) low ∙ ap (λ b. cond b 1 0) (itself place) in
        let none = passed bound ls (place + 1) place (omega arith) in
        ap (λ n. below bound (l ∷ ls) place (at_place n)) here ∙ one_and (cond (int_le l bound) (at_place place place) 0) (below bound ls (place + 1) (at_place place)) one none
        ∙ ap (λ b. cond b 1 0) (sym (le_first v l bound within low))

-- the same of values one after the other
values_below : (bound : ℤ) (bounds vs : List ℤ) → rise bounds ≡ true → In bound bounds
    → below bound bounds 0 (λ j. count_by (λ v. bucket bounds v == j) vs) ≡ total 0 ◌+◌ (λ v. cond (int_le v bound) 1 0) vs
values_below bound bounds [] up i = nothing_below bound bounds 0
values_below bound bounds (v ∷ vs) up i =
    below_same bound bounds 0 (λ j. count_by (λ w. bucket bounds w == j) (v ∷ vs)) (λ j. at_place (bucket bounds v) j + count_by (λ w. bucket bounds w == j) vs)
    (λ j. sum_by-cons (λ w. cond (bucket bounds w == j) 1 0) v vs)
    ∙ below_plus bound bounds 0 (at_place (bucket bounds v)) (λ j. count_by (λ w. bucket bounds w == j) vs)
    ∙ ap (λ n. n + below bound bounds 0 (λ j. count_by (λ w. bucket bounds w == j) vs)) (ap (λ n. below bound bounds 0 (at_place n)) from_zero ∙ one_value bound v bounds 0 up i)
    ∙ ap (λ n. cond (int_le v bound) 1 0 + n) (values_below bound bounds vs up i)
  where
    from_zero : bucket bounds v ≡ 0 + bucket bounds v
    from_zero = omega arith

-- up to one of its bounds a histogram of values counts those that are not above it
pub counted_up_to : (bound : ℤ) (bounds vs : List ℤ) → rise bounds ≡ true → In bound bounds → count_up_to bound bounds (buckets bounds vs) ≡ total 0 ◌+◌ (λ v. cond (int_le v bound) 1 0) vs
counted_up_to bound bounds vs up i =
    counted_by_place bound bounds 0 (length bounds + 1) (λ j. count_by (λ v. bucket bounds v == j) vs) (omega arith) ∙ values_below bound bounds vs up i
