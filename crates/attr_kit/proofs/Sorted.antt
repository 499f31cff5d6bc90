-- Entries whose keys rise, and entries each of which is below the next.
use Rattle.std.proofs.Common.{◌≡◌, ℕ, zero, suc, ◌+◌, ◌<◌, List, [], ◌∷◌, ◌++◌, ◌&&◌, Bool, true, false, length, get_or, ap, sym, ◌∙◌, refl, arith, true≢false}
use Rattle.std.specs.Cmp.{IsTotalOrder}
use Rattle.std.specs.FinMap.Entries.{is_sorted, below_all}
use Rattle.std.specs.List.{IsAllAdjacentAnswer, AllAdjacentBelow}
use Rattle.std.specs.Ordering.{is_lt}
use Rattle.std.specs.declared.cmp.Ordering.{Ordering}
use Rattle.std.specs.declared.cmp.Ordering.TheVariants.{Less, Equal, Greater}
use Rattle.attr_kit.proofs.Rising.{both, left, right}

less : (r : Ordering) → is_lt r ≡ true → r ≡ Less
less Less h = refl
less Equal h = absurd (true≢false (sym h))
less Greater h = absurd (true≢false (sym h))

and_false : (a b : Bool) → b ≡ false → (a && b) ≡ false
and_false true b h = h
and_false false b h = refl

-- an element behind the first
behind : {A : Type 0} (x : A) (xs : List A) (k : ℕ) (d : A) → get_or (x ∷ xs) (suc k + 1) d ≡ get_or xs (k + 1) d
behind x xs k d =
    let later : suc k + 1 ≡ suc (k + 1) = omega arith in
    ap (λ n. get_or (x ∷ xs) n d) later

module _ {K X : Type 0} (R : K → K → Ordering) where
  pub below_within : (k : K) (s ps : List (K × X)) (p : K × X) → below_all R k (s ++ p ∷ ps) ≡ true → R k p.0 ≡ Less
  below_within k [] ps p h = less _ (left _ _ h)
  below_within k (e ∷ s) ps p h = below_within k s ps p (right (is_lt (R k e.0)) _ h)

  module _ (o : IsTotalOrder R) where
    below_less : (x y : K) (es : List (K × X)) → R x y ≡ Less → below_all R y es ≡ true → below_all R x es ≡ true
    below_less x y [] p h = refl
    below_less x y (e ∷ es) p h = both _ _ (ap is_lt (o.trans x y e.0 p (less _ (left _ _ h)))) (below_less x y es p (right (is_lt (R y e.0)) _ h))

    -- where one is above the next the keys do not rise
    pub unsorted_at : (es : List (K × X)) (k : ℕ) → k + 1 < length es → ((d : K × X) → false ≡ is_lt (R (get_or es k d).0 (get_or es (k + 1) d).0)) → is_sorted R es ≡ false
    unsorted_at [] k h f = absurd (omega arith)
    unsorted_at (e ∷ []) k h f = absurd (omega arith)
    unsorted_at (e ∷ g ∷ es) zero h f = λ i. sym (f e) i && below_all R e.0 es && is_sorted R (g ∷ es)
    unsorted_at (e ∷ g ∷ es) (suc k) h f =
        and_false (below_all R e.0 (g ∷ es)) _ (unsorted_at (g ∷ es) k (omega arith) (λ d. f d ∙ (λ i. is_lt (R (get_or (g ∷ es) k d).0 (behind e (g ∷ es) k d i).0))))

    pub sorted_stepwise : (es : List (K × X)) → AllAdjacentBelow (λ x y. true ≡ is_lt (R x.0 y.0)) es (length es) → is_sorted R es ≡ true
    sorted_stepwise [] a = refl
    sorted_stepwise (e ∷ []) a = refl
    sorted_stepwise (e ∷ g ∷ es) a =
        let rest : is_sorted R (g ∷ es) ≡ true = sorted_stepwise (g ∷ es) (λ k d h. a (suc k) d (omega arith) ∙ (λ i. is_lt (R (get_or (g ∷ es) k d).0 (behind e (g ∷ es) k d i).0))) in
        let first : is_lt (R e.0 g.0) ≡ true = sym (a 0 e (omega arith)) in
        both _ _ (both _ _ first (below_less e.0 g.0 es (less _ first) (left _ _ rest))) rest

    -- what a walk over neighbours says
    pub stepwise : (es : List (K × X)) (r : Bool) → IsAllAdjacentAnswer (λ x y b. b ≡ is_lt (R x.0 y.0)) es r → r ≡ is_sorted R es
    stepwise es true a = sym (sorted_stepwise es a)
    stepwise es false a = sym (unsorted_at es a.0 a.1 a.2)
