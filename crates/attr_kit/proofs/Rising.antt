-- Lists in which each element is below all that follow.
use Rattle.std.proofs.Common.{◌≡◌, ℕ, zero, suc, ◌+◌, ◌<◌, ◌≤◌, List, [], ◌∷◌, ◌&&◌, Bool, true, false, fold, length, get_or, ap, sym, ◌∙◌, refl, arith, add-one, Err, inl, inr, true≢false}
use Rattle.std.proofs.lemmas.Bool.{cases_lt}
use Rattle.std.proofs.lemmas.List.Elements.{All-from_get_or}
use Rattle.std.proofs.lemmas.List.Folds.{list_any_at, list_any_none}
use Rattle.std.proofs.lemmas.List.Sorted.{searchable_from_sorted}
use Rattle.std.specs.BTreeSet.{insert_key}
use Rattle.std.specs.Cmp.{IsTotalOrder}
use Rattle.std.specs.List.{list_all, list_any}
use Rattle.std.specs.List.Sorted.{IsBinarySearchResult}
use Rattle.std.specs.Ordering.{is_lt, is_eq, ordering_reverse, eq_by_cmp, match_ordering}
use Rattle.std.specs.declared.cmp.Ordering.{Ordering}
use Rattle.std.specs.declared.cmp.Ordering.TheVariants.{Less, Equal, Greater}
use Rattle.attr_kit.specs.AllowLists.{is_rising}

pub both : (a b : Bool) → a ≡ true → b ≡ true → (a && b) ≡ true
both true b p q = q
both false b p q = p

pub left : (a b : Bool) → (a && b) ≡ true → a ≡ true
left true b h = refl
left false b h = h

pub right : (a b : Bool) → (a && b) ≡ true → b ≡ true
right true b h = h
right false b h = absurd (true≢false (sym h))

less : (r : Ordering) → is_lt r ≡ true → r ≡ Less
less Less h = refl
less Equal h = absurd (true≢false (sym h))
less Greater h = absurd (true≢false (sym h))

untied : (r : Ordering) → (r ≡ Equal → ⊥) → is_eq r ≡ false
untied Less h = refl
untied Equal h = absurd (h refl)
untied Greater h = refl

module _ {K : Type 0} (R : K → K → Ordering) where
  abbrev below : K → List K → Bool
  below k xs = list_all (λ later. is_lt (R k later)) xs

  below_at : (k : K) (xs : List K) (j : ℕ) (d : K) → below k xs ≡ true → j < length xs → R k (get_or xs j d) ≡ Less
  below_at k [] j d b h = absurd (omega arith)
  below_at k (x ∷ xs) zero d b h = less _ (left _ _ b)
  below_at k (x ∷ xs) (suc j) d b h = below_at k xs j d (right (is_lt (R k x)) _ b) (omega arith)

  module _ (o : IsTotalOrder R) where
    below_less : (x y : K) (xs : List K) → R x y ≡ Less → below y xs ≡ true → below x xs ≡ true
    below_less x y [] p h = refl
    below_less x y (z ∷ xs) p h = both _ _ (ap is_lt (o.trans x y z p (less _ (left _ _ h)))) (below_less x y xs p (right (is_lt (R y z)) _ h))

    below_insert : (x k : K) (xs : List K) → R x k ≡ Less → below x xs ≡ true → below x (insert_key R xs k) ≡ true
    below_insert x k [] p h = both _ _ (ap is_lt p) refl
    below_insert x k (y ∷ ys) p h =
        elim (R k y) as (λ r. below x (match_ordering r (k ∷ y ∷ ys) (y ∷ ys) (y ∷ insert_key R ys k)) ≡ true) [
          | Less ↦ both _ _ (ap is_lt p) h
          | Equal ↦ h
          | Greater ↦ both _ _ (left _ _ h) (below_insert x k ys p (right (is_lt (R x y)) _ h))
        ]

    -- a key put in its place
    pub rising_insert : (k : K) (xs : List K) → is_rising R xs ≡ true → is_rising R (insert_key R xs k) ≡ true
    rising_insert k [] h = refl
    rising_insert k (x ∷ xs) h =
        elim (R k x) as (λ r. R k x ≡ r → is_rising R (match_ordering r (k ∷ x ∷ xs) (x ∷ xs) (x ∷ insert_key R xs k)) ≡ true) [
          | Less ↦ λ e. both _ _ (both _ _ (ap is_lt e) (below_less k x xs e (left _ _ h))) h
          | Equal ↦ λ _. h
          | Greater ↦ λ e. both _ _ (below_insert x k xs (o.antisymm x k ∙ ap ordering_reverse e) (left _ _ h)) (rising_insert k xs (right (below x xs) _ h))
        ] refl

    -- keys put in one after the other
    pub rising_fold : (s ks : List K) → is_rising R s ≡ true → is_rising R (fold (λ s k. insert_key R s k) s ks) ≡ true
    rising_fold s [] h = h
    rising_fold s (k ∷ ks) h = rising_fold (insert_key R s k) ks (rising_insert k s h)

    -- neighbours rise
    rises : (xs : List K) (k : ℕ) (d : K) → is_rising R xs ≡ true → k + 1 < length xs → is_lt (R (get_or xs (suc k) d) (get_or xs k d)) ≡ false
    rises [] k d s h = absurd (omega arith)
    rises (x ∷ xs) zero d s h = ap is_lt (o.antisymm (get_or xs 0 d) x ∙ ap ordering_reverse (below_at x xs 0 d (left _ _ s) (omega arith)))
    rises (x ∷ xs) (suc k) d s h = rises xs k d (right (below x xs) _ s) (omega arith)

    module _ (E : K → K → Bool) (ties : (x y : K) → E x y ≡ eq_by_cmp R x y) where
      -- the one that a binary search found is among the elements
      pub listed_here : (q : K) (xs : List K) (i : ℕ) (d : K) → i < length xs → R (get_or xs i d) q ≡ Equal → list_any (E q) xs ≡ true
      listed_here q xs i d h e = list_any_at (E q) xs i d h (ties q (get_or xs i d) ∙ ap is_eq (o.antisymm q (get_or xs i d) ∙ ap ordering_reverse e))

      apart_at : (q : K) (xs : List K) (i k : ℕ) (d : K) → (k < i → R (get_or xs k d) q ≡ Less) → (i ≤ k → R (get_or xs k d) q ≡ Greater) → E q (get_or xs k d) ≡ false
      apart_at q xs i k d before after =
          ties q (get_or xs k d) ∙ ap is_eq (o.antisymm q (get_or xs k d))
          ∙ elim (cases_lt k i) [
            | inl l ↦ ap (λ r. is_eq (ordering_reverse r)) (before l)
            | inr g ↦ ap (λ r. is_eq (ordering_reverse r)) (after g)
          ]

      -- where a binary search found none, none ties
      pub listed_nowhere : (q : K) (xs : List K) (i : ℕ) → is_rising R xs ≡ true → IsBinarySearchResult (λ y. R y q) xs (Err i) → list_any (E q) xs ≡ false
      listed_nowhere q [] i s h = refl
      listed_nowhere q (x ∷ xs) i s h =
          let parts = h (searchable_from_sorted o (λ y. y) (x ∷ xs) q (λ k d _ l. rw (add-one k) (rises (x ∷ xs) k d s l))) in
          list_any_none (E q) (x ∷ xs) (All-from_get_or (λ y. E q y ≡ false) (x ∷ xs) x (λ k l. apart_at q (x ∷ xs) i k x (parts.0 k x (omega arith)) (λ g. parts.1 k x g l)))
