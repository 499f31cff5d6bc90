-- A binary search of a list whose values are entries in the order of their keys.
use Rattle.std.proofs.Common.{◌≡◌, ℕ, zero, suc, ◌+◌, ◌<◌, ◌≤◌, false, cond, List, [], ◌∷◌, map, length, get_or, Some, Ok, Err, Result, refl, sym, ap, ◌∙◌, arith, add-one}
use Rattle.std.specs.Prelude.{T}
use Rattle.std.specs.List.{insert}
use Rattle.std.specs.List.Sorted.{IsBinarySearchResult, IsNonDecreasingBy, IsSearchInRange}
use Rattle.std.specs.declared.cmp.Ordering.{Ordering}
use Rattle.std.specs.declared.cmp.Ordering.TheVariants.{Less, Equal, Greater}
use Rattle.std.specs.Ordering.{is_lt, is_eq, ordering_index, ordering_reverse}
use Rattle.std.specs.Cmp.{IsTotalOrder}
use Rattle.std.specs.FinMap.{IsAntisymmetric}
use Rattle.std.specs.FinMap.Entries.{by_order, find, is_sorted, below_all, put}
use Rattle.std.proofs.lemmas.List.Sorted.{searchable_from_sorted}
use Rattle.gateway_kit.specs.Places.{IsAt, IsGap, IsPlace}
use Rattle.gateway_kit.proofs.Entries.{first, second, less, turned_greater}

module _ {A K V : Type 0} {R : K → K → Ordering} (o : IsTotalOrder R) (anti : IsAntisymmetric R) (f : A → K × V) where
  -- where all before are below the key and all from there on are above it, it is not there
  gap : (q : K) (xs : List A) (i : ℕ) (d : A) → i ≤ length xs → ((k : ℕ) → k < i → R (f (get_or xs k d)).0 q ≡ Less) → ((k : ℕ) → i ≤ k → k < length xs → R (f (get_or xs k d)).0 q ≡ Greater) → IsGap R (map f xs) q i
  gap q [] zero d h before after = record { none = refl; within = omega arith; fits = λ v. refl }
  gap q [] (suc i) d h before after = absurd (omega arith)
  gap q (x ∷ xs) zero d h before after =
      let above : R (f x).0 q ≡ Greater = after 0 (omega arith) (omega arith) in
      let under : R q (f x).0 ≡ Less = o.antisymm q (f x).0 ∙ ap ordering_reverse above in
      let rest = gap q xs 0 d (omega arith) (λ k l. absurd (omega arith)) (λ k l m. after (suc k) (omega arith) (omega arith)) in
      record {
        none = ap (λ r. cond (is_eq r) (Some (f x).1) (find R q (map f xs))) under ∙ rest.none;
        within = omega arith;
        fits = λ v. ap (λ r. by_order r ((q, v) ∷ f x ∷ map f xs) (((f x).0, v) ∷ map f xs) (f x ∷ put R q v (map f xs))) (sym under);
      }
  gap q (x ∷ xs) (suc i) d h before after =
      let above : R q (f x).0 ≡ Greater = turned_greater o (f x).0 q (before 0 (omega arith)) in
      let rest = gap q xs i d (omega arith) (λ k l. before (suc k) (omega arith)) (λ k l m. after (suc k) (omega arith) (omega arith)) in
      let within : i ≤ length (map f xs) = rest.within in
      record {
        none = ap (λ r. cond (is_eq r) (Some (f x).1) (find R q (map f xs))) above ∙ rest.none;
        within = omega arith;
        fits = λ v. ap (λ l. f x ∷ l) (rest.fits v) ∙ ap (λ r. by_order r ((q, v) ∷ f x ∷ map f xs) (((f x).0, v) ∷ map f xs) (f x ∷ put R q v (map f xs))) (sym above);
      }

  pub below_at : (k : K) (xs : List A) (j : ℕ) (d : A) → T (below_all R k (map f xs)) → j < length xs → R k (f (get_or xs j d)).0 ≡ Less
  below_at k [] j d b h = absurd (omega arith)
  below_at k (x ∷ xs) zero d b h = less _ (first _ _ b)
  below_at k (x ∷ xs) (suc j) d b h = below_at k xs j d (second _ _ b) (omega arith)

  -- neighbours rise
  pub rises : (xs : List A) (k : ℕ) (d : A) → T (is_sorted R (map f xs)) → k + 1 < length xs → is_lt (R (f (get_or xs (suc k) d)).0 (f (get_or xs k d)).0) ≡ false
  rises [] k d s h = absurd (omega arith)
  rises (x ∷ xs) zero d s h = ap is_lt (turned_greater o (f x).0 (f (get_or xs 0 d)).0 (below_at (f x).0 xs 0 d (first _ _ s) (omega arith)))
  rises (x ∷ xs) (suc k) d s h = rises xs k d (second _ _ s) (omega arith)

  -- the answers to a key do not fall along a list in order
  pub does_not_fall : (q : K) (xs : List A) → T (is_sorted R (map f xs)) → IsNonDecreasingBy (λ y. ordering_index (R (f y).0 q)) xs
  does_not_fall q xs s = searchable_from_sorted o (λ y. (f y).0) xs q (λ k d _ l. rw (add-one k) (rises xs k d s l))

  pub found : (q : K) (xs : List A) (i : ℕ) (d : A) → i < length xs → R (f (get_or xs i d)).0 q ≡ Equal → IsAt R (map f xs) q i
  found q [] i d h e = absurd (omega arith)
  found q (x ∷ xs) zero d h e = ap Some (anti (f x).0 q e)
  found q (x ∷ xs) (suc i) d h e = found q xs i d (omega arith) e

  -- what a binary search says
  pub placed : (q : K) (xs : List A) → T (is_sorted R (map f xs)) → (r : Result ℕ ℕ) → IsSearchInRange r (length xs) → IsBinarySearchResult (λ y. R (f y).0 q) xs r → IsPlace R (map f xs) q r
  placed q [] s (Ok i) bound is = absurd (omega arith)
  placed q (x ∷ xs) s (Ok i) bound is = found q (x ∷ xs) i x bound (is x)
  placed q [] s (Err i) bound is = record { none = refl; within = bound; fits = λ v. at_none i v bound }
    where
      at_none : (i : ℕ) (v : V) → i ≤ 0 → insert {X = K × V} [] i (q, v) ≡ (q, v) ∷ []
      at_none zero v h = refl
      at_none (suc i) v h = absurd (omega arith)
  placed q (x ∷ xs) s (Err i) bound is =
      let parts = is (does_not_fall q (x ∷ xs) s) in
      gap q (x ∷ xs) i x bound (λ k h. parts.0 k x (omega arith) h) (λ k g h. parts.1 k x g h)
