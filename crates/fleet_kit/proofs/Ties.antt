-- Elements that tie with earlier ones.
use Rattle.std.proofs.Common.{◌≡◌, ℕ, zero, suc, ◌+◌, ◌-◌, ◌<◌, Bool, true, false, List, [], ◌∷◌, ◌++◌, append_assoc, length, take, drop, slice_index_or, position, cond, Option, Some, None, refl, sym, ap, ◌∙◌, arith}
use Rattle.std.proofs.Math.Seq.{drop-cons}
use Rattle.std.proofs.lemmas.List.{length-take-le, take_more, get_or_append_left, length_push}
use Rattle.std.proofs.lemmas.Iterator.Adapters.{position_from-zero}
use Rattle.std.specs.List.{position_from}
use Rattle.std.specs.Option.{option_map, option_or}
use Rattle.fleet_kit.specs.Checks.{crowded_from, is_crowded, first_tie_from}
use Rattle.fleet_kit.specs.declared.setup.Job.{Job}

module _ {A : Type 0} (eq : A → A → Bool) where
  -- at one place more
  pub tied_here : (xs : List A) (k a : ℕ) (x : A) → k < length xs → x ≡ slice_index_or xs k x → position (λ y. eq y x) (take k xs) ≡ Some a → first_tie_from eq (take k xs) (drop k xs) ≡ Some (a, k)
  tied_here xs k a x h is e =
      ap (first_tie_from eq (take k xs)) (drop-cons xs k x h)
      ∙ ap (λ y. first_tie_from eq (take k xs) (y ∷ drop (suc k) xs)) (sym is)
      ∙ ap (λ (o : Option ℕ). option_or (option_map (λ i. (i, length (take k xs))) o) (first_tie_from eq (take k xs ++ x ∷ []) (drop (suc k) xs))) e
      ∙ ap (λ n. Some (a, n)) (length-take-le k xs (omega (arith, h)))

  pub not_tied_here : (xs : List A) (k : ℕ) (x : A) → k < length xs → x ≡ slice_index_or xs k x → position (λ y. eq y x) (take k xs) ≡ None
      → first_tie_from eq (take k xs) (drop k xs) ≡ first_tie_from eq (take (k + 1) xs) (drop (k + 1) xs)
  not_tied_here xs k x h is e =
      let next : suc k ≡ k + 1 = omega arith in
      ap (first_tie_from eq (take k xs)) (drop-cons xs k x h)
      ∙ ap (λ y. first_tie_from eq (take k xs) (y ∷ drop (suc k) xs)) (sym is)
      ∙ ap (λ (o : Option ℕ). option_or (option_map (λ i. (i, length (take k xs))) o) (first_tie_from eq (take k xs ++ x ∷ []) (drop (suc k) xs))) e
      ∙ ap (λ y. first_tie_from eq (take k xs ++ y ∷ []) (drop (suc k) xs)) is
      ∙ ap (λ l. first_tie_from eq l (drop (suc k) xs)) (sym (take_more xs k x h))
      ∙ ap (λ n. first_tie_from eq (take (k + 1) xs) (drop n xs)) next

  position_none : (x : A) (xs : List A) (k : ℕ) → position_from (λ y. eq y x) k xs ≡ None → (i : ℕ) (d : A) → i < length xs → eq (slice_index_or xs i d) x ≡ false
  position_none x [] k e i d h = absurd (omega (arith, h))
  position_none x (y ∷ xs) k e zero d h = elim (eq y x) as (λ b. cond b (Some k) (position_from (λ z. eq z x) (k + 1) xs) ≡ None → b ≡ false) [ true ↦ λ some. cc some | false ↦ λ rest. refl ] e
  position_none x (y ∷ xs) k e (suc i) d h =
      elim (eq y x) as (λ b. cond b (Some k) (position_from (λ z. eq z x) (k + 1) xs) ≡ None → eq (slice_index_or xs i d) x ≡ false) [ true ↦ λ some. cc some | false ↦ λ rest. position_none x xs (k + 1) rest i d (omega (arith, h)) ] e

  or_none : {X Y : Type 0} (f : X → Y) (o : Option X) (r : Option Y) → option_or (option_map f o) r ≡ None → (o ≡ None) × (r ≡ None)
  or_none f None r e = (refl, e)
  or_none f (Some a) r e = cc e

  -- where none ties with an earlier one, what stands at a place ties with none before
  pub none_tied : (earlier xs : List A) → first_tie_from eq earlier xs ≡ None → (i j : ℕ) (d : A) → i < length earlier + j → j < length xs → eq (slice_index_or (earlier ++ xs) i d) (slice_index_or xs j d) ≡ false
  none_tied earlier [] e i j d h k = absurd (omega (arith, k))
  none_tied earlier (x ∷ xs) e i zero d h k =
      let parts = or_none (λ p. (p, length earlier)) (position (λ y. eq y x) earlier) (first_tie_from eq (earlier ++ x ∷ []) xs) e in
      let short : i < length earlier = omega (arith, h) in
      ap (λ y. eq y x) (get_or_append_left earlier (x ∷ xs) d i short)
      ∙ position_none x earlier 0 (sym (position_from-zero (λ y. eq y x) earlier) ∙ parts.0) i d short
  none_tied earlier (x ∷ xs) e i (suc j) d h k =
      let parts = or_none (λ p. (p, length earlier)) (position (λ y. eq y x) earlier) (first_tie_from eq (earlier ++ x ∷ []) xs) e in
      let longer : length (earlier ++ x ∷ []) ≡ length earlier + 1 = length_push earlier x in
      ap (λ l. eq (slice_index_or l i d) (slice_index_or xs j d)) (sym (append_assoc earlier (x ∷ []) xs))
      ∙ none_tied (earlier ++ x ∷ []) xs parts.1 i j d (omega (arith, h, longer)) (omega (arith, k))

-- a place at which there are not too many
pub crowded_more : (jobs : List Job) (w n : ℕ) → w < n → is_crowded jobs w ≡ false → crowded_from jobs w (n - w) ≡ crowded_from jobs (w + 1) (n - (w + 1))
crowded_more jobs w n l few =
    let more : n - w ≡ suc (n - (w + 1)) = omega (arith, l) in
    ap (crowded_from jobs w) more ∙ ap (λ b. cond b (Some w) (crowded_from jobs (w + 1) (n - (w + 1)))) few
