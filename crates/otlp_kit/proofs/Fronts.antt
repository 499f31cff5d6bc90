-- The first run of a list, and what it leaves.
use Rattle.std.proofs.Common.{◌≡◌, ℕ, zero, suc, ◌+◌, ◌-◌, ◌<◌, ◌≤◌, cond, Bool, true, false, List, [], ◌∷◌, ◌++◌, length, take, drop, get_or, refl, sym, ap, ◌∙◌, append_assoc, arith}
use Rattle.std.specs.List.{flat_map}
use Rattle.otlp_kit.specs.Runs.{goes_on, run_length, before_runs, runs}

module _ {A : Type 0} (alike : A → A → Bool) where
  pub goes : (xs : List A) (i : ℕ) (d : A) → suc i < length xs → alike (get_or xs i d) (get_or xs (suc i) d) ≡ true → run_length alike (drop i xs) ≡ suc (run_length alike (drop (suc i) xs))
  goes [] i d h e = absurd (omega arith)
  goes (x ∷ []) i d h e = absurd (omega arith)
  goes (x ∷ y ∷ ys) zero d h e = ap (λ (b : Bool). cond b (suc (run_length alike (y ∷ ys))) 1) e
  goes (x ∷ y ∷ ys) (suc i) d h e = goes (y ∷ ys) i d (omega arith) e

  pub stops : (xs : List A) (i : ℕ) (d : A) → suc i < length xs → alike (get_or xs i d) (get_or xs (suc i) d) ≡ false → run_length alike (drop i xs) ≡ 1
  stops [] i d h e = absurd (omega arith)
  stops (x ∷ []) i d h e = absurd (omega arith)
  stops (x ∷ y ∷ ys) zero d h e = ap (λ (b : Bool). cond b (suc (run_length alike (y ∷ ys))) 1) e
  stops (x ∷ y ∷ ys) (suc i) d h e = stops (y ∷ ys) i d (omega arith) e

  pub ends : (xs : List A) (i : ℕ) → suc i ≡ length xs → run_length alike (drop i xs) ≡ 1
  ends [] i h = absurd (omega arith)
  ends (x ∷ []) zero h = refl
  ends (x ∷ []) (suc i) h = absurd (omega arith)
  ends (x ∷ y ∷ ys) zero h = absurd (omega arith)
  ends (x ∷ y ∷ ys) (suc i) h = ends (y ∷ ys) i (omega arith)

  pub front : (x : A) (xs : List A) → runs alike (x ∷ xs) ≡ take (run_length alike (x ∷ xs)) (x ∷ xs) ∷ runs alike (drop (run_length alike (x ∷ xs)) (x ∷ xs))
  front x [] = refl
  front x (y ∷ ys) =
      elim (alike x y) as (λ (b : Bool). before_runs b x (runs alike (y ∷ ys)) ≡ take (cond b (suc (run_length alike (y ∷ ys))) 1) (x ∷ y ∷ ys) ∷ runs alike (drop (cond b (suc (run_length alike (y ∷ ys))) 1) (x ∷ y ∷ ys)))
      [ true ↦ ap (λ (rs : List (List A)). before_runs true x rs) (front y ys) | false ↦ refl ]

  pub some : (x : A) (xs : List A) → 0 < run_length alike (x ∷ xs)
  some x xs = elim (goes_on alike x xs) as (λ (b : Bool). 0 < cond b (suc (run_length alike xs)) 1) [ true ↦ omega arith | false ↦ omega arith ]

  pub has_some : (xs : List A) (n : ℕ) → 0 < length xs → n ≡ run_length alike xs → 0 < n
  has_some [] n h e = absurd (omega arith)
  has_some (x ∷ xs) n h e = omega (arith, some x xs, e)

  one_more : (n m : ℕ) (b : Bool) → n ≤ m → cond b (suc n) 1 ≤ suc m
  one_more n m true h = omega arith
  one_more n m false h = omega arith

  at_most : (xs : List A) → run_length alike xs ≤ length xs
  at_most [] = omega arith
  at_most (x ∷ xs) = one_more (run_length alike xs) (length xs) (goes_on alike x xs) (at_most xs)

  pub within : (xs : List A) (n : ℕ) → n ≡ run_length alike xs → n ≤ length xs
  within xs n e = omega (arith, at_most xs, e)

  -- what is written of the first run and of what it leaves is written of all
  module _ (written : List A → List ℕ) where
    pub run_more : (whole out new : List ℕ) (xs : List A) (n : ℕ) → 0 < length xs → n ≡ run_length alike xs → out ++ flat_map written (runs alike xs) ≡ whole → new ≡ out ++ written (take n xs) → new ++ flat_map written (runs alike (drop n xs)) ≡ whole
    run_more whole out new [] n h e inv is = absurd (omega arith)
    run_more whole out new (x ∷ xs) n h e inv is =
        let rest = flat_map written (runs alike (drop n (x ∷ xs))) in
        ap (λ (l : List ℕ). l ++ rest) is ∙ append_assoc out (written (take n (x ∷ xs))) rest
        ∙ ap (λ (m : ℕ). out ++ (written (take m (x ∷ xs)) ++ flat_map written (runs alike (drop m (x ∷ xs))))) e
        ∙ ap (λ (rs : List (List A)). out ++ flat_map written rs) (sym (front x xs))
        ∙ inv

module _ {A : Type 0} (alike : A → A → Bool) (xs : List A) where
  -- of a walk that has passed n elements of the first run
  before : (n : ℕ) → 0 < n → suc (n - 1) ≡ n
  before n h = omega arith

  pub run_ends : (n : ℕ) → 0 < n → n ≡ length xs → run_length alike xs + 1 ≡ n + run_length alike (drop (n - 1) xs) → n ≡ run_length alike xs
  run_ends n h e passed = omega (arith, ends alike xs (n - 1) (before n h ∙ e), passed)

  pub run_stops : (n : ℕ) (d : A) → 0 < n → n < length xs → alike (get_or xs (n - 1) d) (get_or xs n d) ≡ false → run_length alike xs + 1 ≡ n + run_length alike (drop (n - 1) xs) → n ≡ run_length alike xs
  run_stops n d h k e passed =
      let later : suc (n - 1) ≡ n = before n h in
      let bound : suc (n - 1) < length xs = omega arith in
      omega (arith, stops alike xs (n - 1) d bound (ap (λ (i : ℕ). alike (get_or xs (n - 1) d) (get_or xs i d)) later ∙ e), passed)

  pub run_goes : (n : ℕ) (d : A) → 0 < n → n < length xs → alike (get_or xs (n - 1) d) (get_or xs n d) ≡ true → run_length alike xs + 1 ≡ n + run_length alike (drop (n - 1) xs) → run_length alike xs + 1 ≡ n + 1 + run_length alike (drop (n + 1 - 1) xs)
  run_goes n d h k e passed =
      let later : suc (n - 1) ≡ n = before n h in
      let same : n + 1 - 1 ≡ n = omega arith in
      let bound : suc (n - 1) < length xs = omega arith in
      let more = goes alike xs (n - 1) d bound (ap (λ (i : ℕ). alike (get_or xs (n - 1) d) (get_or xs i d)) later ∙ e) ∙ ap (λ (i : ℕ). suc (run_length alike (drop i xs))) (later ∙ sym same) in
      omega (arith, more, passed)
