-- A list of distinct keys, sorted: its entries strictly rise, and what is found stays.
use Rattle.std.proofs.Common.{◌≡◌, ℕ, zero, suc, ◌+◌, ◌<◌, Bool, true, false, not, ◌&&◌, cond, List, [], ◌∷◌, map, filter, length, get_or, Option, Some, None, refl, sym, ap, subst, ◌∙◌, arith, true≢false, IsPermutation, ◌⊎◌, inl, inr}
use Rattle.std.proofs.lemmas.Bool.{and_from, and_parts}
use Rattle.std.specs.Prelude.{T}
use Rattle.std.specs.List.{IsDistinct, AllByRecursion, list_all}
use Rattle.std.proofs.Common.{All}
use Rattle.std.specs.List.Sorted.{IsSortedBy, IsStableBy, ties}
use Rattle.std.specs.declared.cmp.Ordering.{Ordering}
use Rattle.std.specs.declared.cmp.Ordering.TheVariants.{Less, Equal, Greater}
use Rattle.std.specs.Ordering.{eq_by_cmp, is_eq, is_lt, ordering_reverse}
use Rattle.std.specs.Cmp.{IsTotalOrder, Equal-is, eq_by_cmp_equiv}
use Rattle.std.specs.FinMap.{IsAntisymmetric}
use Rattle.std.specs.FinMap.Entries.{find, is_sorted, below_all}
use Rattle.std.proofs.lemmas.List.Sorted.{IsPermutation-map, All-permutation, sorted_far, ranks_by}
use Rattle.std.proofs.lemmas.Map.Keys.{IsDistinct-IsPermutation}
use Rattle.gateway_kit.specs.Weave.{Rises}
use Rattle.gateway_kit.proofs.Entries.{both, first, is_less, below_less}

module _ {A K V : Type 0} {R : K → K → Ordering} (o : IsTotalOrder R) (f : A → K × V) where
  -- the order of keys, as a test
  abbrev pub lower : A → A → Bool
  lower x y = is_lt (R (f x).0 (f y).0)

  value_first : List A → Option V
  value_first [] = None
  value_first (x ∷ xs) = Some (f x).1

  find_filtered : (q : K) (xs : List A) → find R q (map f xs) ≡ value_first (filter (λ y. eq_by_cmp R q (f y).0) xs)
  unfolding value_first
  find_filtered q [] = refl
  find_filtered q (x ∷ xs) =
      elim (eq_by_cmp R q (f x).0) as (λ b. cond b (Some (f x).1) (find R q (map f xs)) ≡ value_first (cond b (x ∷ filter (λ y. eq_by_cmp R q (f y).0) xs) (filter (λ y. eq_by_cmp R q (f y).0) xs))) [
        | true ↦ refl
        | false ↦ find_filtered q xs
      ]

  ties_of : (r s : Ordering) → s ≡ ordering_reverse r → (not (is_lt r) && not (is_lt s)) ≡ is_eq r
  ties_of Less s e = refl
  ties_of Equal s e = ap (λ x. not (is_lt x)) e
  ties_of Greater s e = ap (λ x. not (is_lt x)) e

  ties_alike : (x y : A) → ties lower x y ≡ eq_by_cmp R (f x).0 (f y).0
  ties_alike x y = ties_of (R (f x).0 (f y).0) (R (f y).0 (f x).0) (o.antisymm (f y).0 (f x).0)

  same_under : (xs ys : List A) (x : A) → IsStableBy lower xs ys → find R (f x).0 (map f ys) ≡ find R (f x).0 (map f xs)
  same_under xs ys x stable =
      find_filtered (f x).0 ys
      ∙ ap (λ (p : A → Bool). value_first (filter p ys)) (λ i y. sym (ties_alike x y) i)
      ∙ ap value_first (stable x)
      ∙ ap (λ (p : A → Bool). value_first (filter p xs)) (λ i y. ties_alike x y i)
      ∙ sym (find_filtered (f x).0 xs)

  module _ (exact : IsAntisymmetric R) where
    -- the value of a list under a key, or there is none
    under : (q : K) (xs : List A) → ((x : A) × ((f x).0 ≡ q)) ⊎ (find R q (map f xs) ≡ None)
    under q [] = inr refl
    under q (x ∷ xs) =
        elim (eq_by_cmp R q (f x).0) as (λ b. eq_by_cmp R q (f x).0 ≡ b → ((y : A) × ((f y).0 ≡ q)) ⊎ (cond b (Some (f x).1) (find R q (map f xs)) ≡ None)) [
          | true ↦ λ t. inl (x, sym (exact q (f x).0 ((Equal-is (R q (f x).0)).0 t)))
          | false ↦ λ t. under q xs
        ] refl

    pub same_found : (q : K) (xs ys : List A) → IsStableBy lower xs ys → find R q (map f ys) ≡ find R q (map f xs)
    same_found q xs ys stable = elim (under q xs) [
      | inl x ↦ subst (λ k. find R k (map f ys) ≡ find R k (map f xs)) x.1 (same_under xs ys x.0 stable)
      | inr none ↦ elim (under q ys) [
        | inl y ↦ subst (λ k. find R k (map f ys) ≡ find R k (map f xs)) y.1 (same_under xs ys y.0 stable)
        | inr gone ↦ gone ∙ sym none
      ]
    ]

  above : (x y : K) → is_lt (R y x) ≡ false → eq_by_cmp R x y ≡ false → T (is_lt (R x y))
  above x y not_below apart =
      elim (R x y) as (λ r. R x y ≡ r → is_eq r ≡ false → T (is_lt r)) [
        | Less ↦ λ p e. tt
        | Equal ↦ λ p e. absurd (true≢false e)
        | Greater ↦ λ p e. absurd (true≢false (ap is_lt (sym (o.antisymm y x ∙ ap ordering_reverse p)) ∙ not_below))
      ] refl apart

  below_from : (x : K) (zs : List A) → ((j : ℕ) (d : A) → j < length zs → is_lt (R (f (get_or zs j d)).0 x) ≡ false) → AllByRecursion (λ k. eq_by_cmp R x k ≡ false) (map (λ z. (f z).0) zs) → T (below_all R x (map f zs))
  below_from x [] h apart = tt
  below_from x (z ∷ zs) h apart = both _ _ (above x (f z).0 (h 0 z (omega arith)) apart.0) (below_from x zs (λ j d l. h (suc j) d (omega arith)) apart.1)

  rising : (ys : List A) → IsSortedBy lower ys → IsDistinct (eq_by_cmp R) (map (λ y. (f y).0) ys) → T (is_sorted R (map f ys))
  unfolding IsDistinct
  rising [] up apart = tt
  rising (y ∷ ys) up apart =
      both _ _
      (below_from (f y).0 ys (λ j d l. sorted_far lower (ranks_by o (λ x. (f x).0)) (y ∷ ys) up 0 (suc j) d (omega arith) (omega arith)) apart.0)
      (rising ys (λ k d g l. let e : suc k + 1 ≡ suc (k + 1) = omega arith in subst (λ n. lower (get_or (y ∷ ys) n d) (get_or ys k d) ≡ false) e (up (suc k) d (omega arith) (omega arith))) apart.1)

  pub sorted_strictly : (xs ys : List A) → IsPermutation xs ys → IsDistinct (eq_by_cmp R) (map (λ x. (f x).0) xs) → IsSortedBy lower ys → T (is_sorted R (map f ys))
  sorted_strictly xs ys moved apart up = rising ys up (IsDistinct-IsPermutation (eq_by_cmp R) (eq_by_cmp_equiv o).symm (map (λ x. (f x).0) xs) (map (λ x. (f x).0) ys) (IsPermutation-map (λ x. (f x).0) xs ys moved) apart)

-- where each value is below the next, all are in order
pub rising_neighbours : {A K V : Type 0} {R : K → K → Ordering} (o : IsTotalOrder R) (f : A → K × V) (xs : List A) → Rises (λ x y. R (f x).0 (f y).0) xs → T (is_sorted R (map f xs))
rising_neighbours o f [] h = tt
rising_neighbours o f (x ∷ []) h = tt
rising_neighbours {R = R} o f (x ∷ y ∷ ys) h =
    let least : R (f x).0 (f y).0 ≡ Less = h 0 x (omega arith) in
    let rest : T (is_sorted R (map f (y ∷ ys))) = rising_neighbours o f (y ∷ ys) (λ k d l. let e : suc k + 1 ≡ suc (k + 1) = omega arith in subst (λ n. R (f (get_or (x ∷ y ∷ ys) (suc k) d)).0 (f (get_or (x ∷ y ∷ ys) n d)).0 ≡ Less) e (h (suc k) d (omega arith))) in
    both _ _ (both _ _ (is_less o (f x).0 (f y).0 least) (below_less o (f x).0 (f y).0 (map f ys) least (first _ _ rest))) rest

-- a test that all pass, of a list whose elements change places
pub all_moved : {A : Type 0} (test : A → Bool) (xs ys : List A) → IsPermutation xs ys → list_all test xs ≡ true → list_all test ys ≡ true
all_moved {A = A} test xs ys moved h = passed ys (All-permutation (λ x. test x ≡ true) xs ys moved (each xs h))
  where
    each : (zs : List A) → list_all test zs ≡ true → All (λ x. test x ≡ true) zs
    each [] h k d l = absurd (omega arith)
    each (z ∷ zs) h zero d l = (and_parts (test z) (list_all test zs) h).0
    each (z ∷ zs) h (suc k) d l = each zs ((and_parts (test z) (list_all test zs) h).1) k d (omega arith)

    passed : (zs : List A) → All (λ x. test x ≡ true) zs → list_all test zs ≡ true
    passed [] all = refl
    passed (z ∷ zs) all = and_from (test z) (list_all test zs) (all 0 z (omega arith)) (passed zs (λ k d l. all (suc k) d (omega arith)))
