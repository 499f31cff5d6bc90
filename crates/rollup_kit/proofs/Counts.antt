-- Counts by their places.
use Rattle.std.proofs.Common.{◌≡◌, ℕ, zero, suc, ◌+◌, ◌<◌, ◌≤◌, List, [], ◌∷◌, length, get_or, refl, ap, ◌∙◌, arith}
use Rattle.std.specs.Prelude.{replicate}
use Rattle.rollup_kit.specs.Counts.{counts_from, add_each}

-- the counts before a place are added, and those from it on are as they were
pub record AreAdded (place : ℕ) (old new counts : List ℕ) : Type 0 where
  pub len : length new ≡ length old
  pub before : (k : ℕ) → k < place → get_or new k 0 ≡ get_or old k 0 + get_or counts k 0
  pub after : (k : ℕ) → place ≤ k → get_or new k 0 ≡ get_or old k 0

-- buckets that are all empty
no_counts_from : (place n : ℕ) → replicate n 0 ≡ counts_from place n (λ _. 0)
no_counts_from place zero = refl
no_counts_from place (suc n) = ap (λ l. 0 ∷ l) (no_counts_from (place + 1) n)

pub no_counts : (n : ℕ) → replicate n 0 ≡ counts_from 0 n (λ _. 0)
no_counts n = no_counts_from 0 n

-- counts added place by place are the counts of both
pub add_each_counts : (place n : ℕ) (f g : ℕ → ℕ) → add_each place (counts_from place n f) g ≡ counts_from place n (λ p. f p + g p)
add_each_counts place zero f g = refl
add_each_counts place (suc n) f g = ap (λ l. (f place + g place) ∷ l) (add_each_counts (place + 1) n f g)

next_sum : (p k : ℕ) (g : ℕ → ℕ) (y x : ℕ) → y ≡ x + g (p + suc k) → y ≡ x + g ((p + 1) + k)
next_sum p k g y x e = e ∙ ap (λ n. x + g n) (omega arith)

first_sum : (p : ℕ) (g : ℕ → ℕ) (y x : ℕ) → y ≡ x + g (p + 0) → y ≡ x + g p
first_sum p g y x e = e ∙ ap (λ n. x + g n) (omega arith)

-- a list that has at each place both counts
add_each_from : (p : ℕ) (xs ys : List ℕ) (g : ℕ → ℕ) → length ys ≡ length xs → ((k : ℕ) → k < length xs → get_or ys k 0 ≡ get_or xs k 0 + g (p + k)) → ys ≡ add_each p xs g
add_each_from p [] [] g e h = refl
add_each_from p [] (y ∷ ys) g e h = absurd (omega arith)
add_each_from p (x ∷ xs) [] g e h = absurd (omega arith)
add_each_from p (x ∷ xs) (y ∷ ys) g e h =
    let here : y ≡ x + g p = first_sum p g y x (h 0 (omega arith)) in
    let rest : ys ≡ add_each (p + 1) xs g = add_each_from (p + 1) xs ys g (omega arith) (λ k less. next_sum p k g _ _ (h (suc k) (omega arith))) in
    λ i. here i ∷ rest i

pub add_each_is : (xs ys : List ℕ) (g : ℕ → ℕ) → length ys ≡ length xs → ((k : ℕ) → k < length xs → get_or ys k 0 ≡ get_or xs k 0 + g k) → ys ≡ add_each 0 xs g
add_each_is xs ys g e h = add_each_from 0 xs ys g e (λ k less. h k less ∙ ap (λ n. get_or xs k 0 + g n) (omega arith))

-- at each place nothing
pub get_or-no_counts : (p n k : ℕ) → get_or (counts_from p n (λ _. 0)) k 0 ≡ 0
get_or-no_counts p zero k = refl
get_or-no_counts p (suc n) zero = refl
get_or-no_counts p (suc n) (suc k) = get_or-no_counts (p + 1) n k

next_place : (p k : ℕ) (g : ℕ → ℕ) → g ((p + 1) + k) ≡ g (p + suc k)
next_place p k g = ap g (omega arith)

-- at each place at most both counts
get_or-add_each_from : (p : ℕ) (xs : List ℕ) (g : ℕ → ℕ) (k : ℕ) → get_or (add_each p xs g) k 0 ≤ get_or xs k 0 + g (p + k)
get_or-add_each_from p [] g k = omega arith
get_or-add_each_from p (x ∷ xs) g zero = let e : g (p + 0) ≡ g p = ap g (omega arith) in omega arith
get_or-add_each_from p (x ∷ xs) g (suc k) =
    let rest : get_or (add_each (p + 1) xs g) k 0 ≤ get_or xs k 0 + g ((p + 1) + k) = get_or-add_each_from (p + 1) xs g k in
    let e : g ((p + 1) + k) ≡ g (p + suc k) = next_place p k g in
    omega arith

pub get_or-add_each : (xs : List ℕ) (g : ℕ → ℕ) (k : ℕ) → get_or (add_each 0 xs g) k 0 ≤ get_or xs k 0 + g k
get_or-add_each xs g k =
    let h : get_or (add_each 0 xs g) k 0 ≤ get_or xs k 0 + g (0 + k) = get_or-add_each_from 0 xs g k in
    let e : g (0 + k) ≡ g k = ap g (omega arith) in
    omega arith

-- past the last place all is added
pub all_added : (place : ℕ) (old new counts : List ℕ) → AreAdded place old new counts → length old ≤ place → new ≡ add_each 0 old (λ k. get_or counts k 0)
all_added place old new counts h past = add_each_is old new (λ k. get_or counts k 0) h.len (λ k less. h.before k (omega arith))
