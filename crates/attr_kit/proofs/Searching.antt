-- A binary search of entries in the order of their keys.
use Rattle.std.proofs.Common.{◌≡◌, ℕ, zero, suc, ◌+◌, ◌<◌, ◌≤◌, List, [], ◌∷◌, ◌&&◌, Bool, true, false, cond, Some, None, length, get_or, ap, sym, ◌∙◌, refl, subst, arith, add-one, Err, inl, inr}
use lib.Dec.{T}
use Rattle.std.proofs.lemmas.Bool.{cases_lt}
use Rattle.std.proofs.lemmas.List.Sorted.{searchable_from_sorted}
use Rattle.std.specs.Cmp.{IsTotalOrder}
use Rattle.std.specs.Ordering.{is_lt, is_eq, ordering_reverse}
use Rattle.std.specs.declared.cmp.Ordering.{Ordering}
use Rattle.std.specs.declared.cmp.Ordering.TheVariants.{Less, Equal, Greater}
use Rattle.std.specs.List.Sorted.{IsBinarySearchResult}
use Rattle.std.specs.FinMap.Entries.{find, is_sorted, below_all}

head : (a b : Bool) → T (a && b) → T a
head true b h = tt
head false b h = h

rest : (a b : Bool) → T (a && b) → T b
rest true b h = h
rest false b h = absurd h

less : (r : Ordering) → T (is_lt r) → r ≡ Less
less Less h = refl
less Equal h = absurd h
less Greater h = absurd h

module _ {K X : Type 0} (R : K → K → Ordering) where
  below_at : (k : K) (ps : List (K × X)) (j : ℕ) (d : K × X) → T (below_all R k ps) → j < length ps → R k (get_or ps j d).0 ≡ Less
  below_at k [] j d b h = absurd (omega arith)
  below_at k (p ∷ ps) zero d b h = less _ (head _ _ b)
  below_at k (p ∷ ps) (suc j) d b h = below_at k ps j d (rest (is_lt (R k p.0)) _ b) (omega arith)

  module _ (o : IsTotalOrder R) (same : (x y : K) → R x y ≡ Equal → x ≡ y) where
    -- the one that ties is found
    pub find_here : (q : K) (ps : List (K × X)) (i : ℕ) (d : K × X) → T (is_sorted R ps) → i < length ps → R (get_or ps i d).0 q ≡ Equal → find R q ps ≡ Some (get_or ps i d).1
    find_here q [] i d s h e = absurd (omega arith)
    find_here q (p ∷ ps) zero d s h e = ap (λ r. cond (is_eq r) (Some p.1) (find R q ps)) (o.antisymm q p.0 ∙ ap ordering_reverse e)
    find_here q (p ∷ ps) (suc j) d s h e =
        let under : R p.0 q ≡ Less = subst (λ x. R p.0 x ≡ Less) (same _ _ e) (below_at p.0 ps j d (head _ _ s) (omega arith)) in
        ap (λ r. cond (is_eq r) (Some p.1) (find R q ps)) (o.antisymm q p.0 ∙ ap ordering_reverse under)
        ∙ find_here q ps j d (rest (below_all R p.0 ps) _ s) (omega arith) e

    -- none is found where none ties
    pub find_nowhere : (q : K) (ps : List (K × X)) (d : K × X) → ((k : ℕ) → k < length ps → R (get_or ps k d).0 q ≡ Equal → ⊥) → find R q ps ≡ None
    find_nowhere q [] d none = refl
    find_nowhere q (p ∷ ps) d none =
        elim (R q p.0) as (λ r. R q p.0 ≡ r → cond (is_eq r) (Some p.1) (find R q ps) ≡ None) [
          | Less ↦ λ _. find_nowhere q ps d (λ k h. none (suc k) (omega arith))
          | Equal ↦ λ e. absurd (none zero (omega arith) (o.antisymm p.0 q ∙ ap ordering_reverse e))
          | Greater ↦ λ _. find_nowhere q ps d (λ k h. none (suc k) (omega arith))
        ] refl

    -- neighbours rise
    rises : (ps : List (K × X)) (k : ℕ) (d : K × X) → T (is_sorted R ps) → k + 1 < length ps → is_lt (R (get_or ps (suc k) d).0 (get_or ps k d).0) ≡ false
    rises [] k d s h = absurd (omega arith)
    rises (p ∷ ps) zero d s h = ap is_lt (o.antisymm (get_or ps 0 d).0 p.0 ∙ ap ordering_reverse (below_at p.0 ps 0 d (head _ _ s) (omega arith)))
    rises (p ∷ ps) (suc k) d s h = rises ps k d (rest (below_all R p.0 ps) _ s) (omega arith)

    below_or_above : (q : K) (ps : List (K × X)) (i : ℕ) (d : K × X) (k : ℕ) → (k < i → R (get_or ps k d).0 q ≡ Less) → (i ≤ k → R (get_or ps k d).0 q ≡ Greater) → R (get_or ps k d).0 q ≡ Equal → ⊥
    below_or_above q ps i d k before after e =
        elim (cases_lt k i) [
          | inl l ↦ apart (sym (before l) ∙ e)
          | inr g ↦ apart_greater (sym (after g) ∙ e)
        ]
      where
        apart : Less ≡ Equal → ⊥
        apart p = cc

        apart_greater : Greater ≡ Equal → ⊥
        apart_greater p = cc

    -- what a binary search that finds none says
    pub searched_none : (q : K) (ps : List (K × X)) (i : ℕ) → T (is_sorted R ps) → IsBinarySearchResult (λ y. R y.0 q) ps (Err i) → find R q ps ≡ None
    searched_none q [] i s h = refl
    searched_none q (p ∷ ps) i s h =
        let parts = h (searchable_from_sorted o (λ y. y.0) (p ∷ ps) q (λ k d _ l. rw (add-one k) (rises (p ∷ ps) k d s l))) in
        find_nowhere q (p ∷ ps) p (λ k l. below_or_above q (p ∷ ps) i p k (parts.0 k p (omega arith)) (λ g. parts.1 k p g l))
