-- What stands in groups: each has the values of its key.
use Rattle.std.proofs.Common.{◌≡◌, Bool, true, false, cond, inl, inr, List, [], ◌∷◌, ◌++◌, map, filter, fold, refl, sym, ap, ◌∙◌, append_assoc}
use Rattle.std.specs.Cmp.{IsTotalOrder, Equal-is, eq_by_cmp_equiv}
use Rattle.std.specs.List.{AllByRecursion, flat_map}
use Rattle.std.specs.List.Sorted.{IsStrictlySortedBy}
use Rattle.std.specs.Map.{keys_of}
use Rattle.std.specs.Ordering.{eq_by_cmp, is_eq, match_ordering, ordering_reverse}
use Rattle.std.specs.declared.cmp.Ordering.{Ordering}
use Rattle.std.specs.declared.cmp.Ordering.TheVariants.{Less, Equal, Greater}
use Rattle.std.proofs.lemmas.List.{append-nil}
use Rattle.schedule_kit.specs.Members.{In}
use Rattle.schedule_kit.proofs.Members.{In-append, In-left, In-right}
use Rattle.page_kit.specs.Groups.{keyed, put, groups, in_order}
use Rattle.page_kit.proofs.PageLaws.{sorted_one}

module _ {K : Type 0} {R : K → K → Ordering} (o : IsTotalOrder R) where
  -- what ties with a key is not below another that the key is below
  tied_below : (k l y : K) → eq_by_cmp R k l ≡ true → R l y ≡ Less → eq_by_cmp R k y ≡ false
  tied_below k l y t less = ap is_eq (o.congr k l y ((Equal-is (R k l)).0 t) ∙ less)

  less_apart : (l y : K) → R l y ≡ Less → eq_by_cmp R y l ≡ false
  less_apart l y less = ap is_eq (o.antisymm y l ∙ ap ordering_reverse less)

  pub nothing_sorted : IsStrictlySortedBy R []
  unfolding IsStrictlySortedBy
  nothing_sorted = tt

  module _ {A : Type 0} where
    -- the values of the groups whose keys tie with this one
    abbrev pub under : K → List (K × List A) → List A
    under k gs = flat_map (λ g. cond (eq_by_cmp R k g.0) g.1 []) gs

    pub none_above : (k l : K) (gs : List (K × List A)) → eq_by_cmp R k l ≡ true → AllByRecursion (λ y. R l y ≡ Less) (keys_of gs) → under k gs ≡ []
    none_above k l [] t above = refl
    none_above k l (g ∷ gs) t above =
        ap (λ b. cond b g.1 [] ++ under k gs) (tied_below k l g.0 t above.0) ∙ none_above k l gs t above.1

    under_at : (r : Ordering) (k : K) (e : K × A) (g : K × List A) (gs : List (K × List A)) → R e.0 g.0 ≡ r → IsStrictlySortedBy R (keys_of (g ∷ gs)) → under k (put R gs e) ≡ under k gs ++ cond (eq_by_cmp R k e.0) (e.1 ∷ []) []
        → under k (match_ordering r ((e.0, e.1 ∷ []) ∷ g ∷ gs) ((g.0, g.1 ++ e.1 ∷ []) ∷ gs) (g ∷ put R gs e)) ≡ under k (g ∷ gs) ++ cond (eq_by_cmp R k e.0) (e.1 ∷ []) []
    unfolding IsStrictlySortedBy
    under_at Less k e g gs is up rest = go (eq_by_cmp R k e.0) refl
      where
        go : (b : Bool) → eq_by_cmp R k e.0 ≡ b → cond b (e.1 ∷ []) [] ++ under k (g ∷ gs) ≡ under k (g ∷ gs) ++ cond b (e.1 ∷ []) []
        go true t =
            let here : under k (g ∷ gs) ≡ [] = ap (λ b. cond b g.1 [] ++ under k gs) (tied_below k e.0 g.0 t is) ∙ none_above k e.0 gs t (above gs up.0) in
            ap (λ l. e.1 ∷ l) here ∙ ap (λ l. l ++ e.1 ∷ []) (sym here)
          where
            above : (hs : List (K × List A)) → AllByRecursion (λ y. R g.0 y ≡ Less) (keys_of hs) → AllByRecursion (λ y. R e.0 y ≡ Less) (keys_of hs)
            above [] all = tt
            above (h ∷ hs) all = (o.trans e.0 g.0 h.0 is all.0, above hs all.1)
        go false t = sym (append-nil (under k (g ∷ gs)))
    under_at Equal k e g gs is up rest = ap (λ b. cond b (g.1 ++ e.1 ∷ []) [] ++ under k gs) same ∙ go (eq_by_cmp R k e.0) refl ∙ ap (λ b. (cond b g.1 [] ++ under k gs) ++ cond (eq_by_cmp R k e.0) (e.1 ∷ []) []) (sym same)
      where
        same : eq_by_cmp R k g.0 ≡ eq_by_cmp R k e.0
        same = (eq_by_cmp_equiv o).symm k g.0 ∙ sym ((eq_by_cmp_equiv o).congr e.0 g.0 k (ap is_eq is)) ∙ (eq_by_cmp_equiv o).symm e.0 k

        go : (b : Bool) → eq_by_cmp R k e.0 ≡ b → cond b (g.1 ++ e.1 ∷ []) [] ++ under k gs ≡ (cond b g.1 [] ++ under k gs) ++ cond b (e.1 ∷ []) []
        go true t =
            let here : under k gs ≡ [] = none_above k g.0 gs (same ∙ t) up.0 in
            ap (λ l. (g.1 ++ e.1 ∷ []) ++ l) here ∙ append-nil (g.1 ++ e.1 ∷ []) ∙ ap (λ l. l ++ e.1 ∷ []) (sym (append-nil g.1) ∙ ap (λ l. g.1 ++ l) (sym here))
        go false t = sym (append-nil (under k gs))
    under_at Greater k e g gs is up rest =
        ap (λ l. cond (eq_by_cmp R k g.0) g.1 [] ++ l) rest ∙ sym (append_assoc (cond (eq_by_cmp R k g.0) g.1 []) (under k gs) (cond (eq_by_cmp R k e.0) (e.1 ∷ []) []))

    under_put : (k : K) (gs : List (K × List A)) (e : K × A) → IsStrictlySortedBy R (keys_of gs) → under k (put R gs e) ≡ under k gs ++ cond (eq_by_cmp R k e.0) (e.1 ∷ []) []
    unfolding IsStrictlySortedBy
    under_put k [] e up = append-nil (cond (eq_by_cmp R k e.0) (e.1 ∷ []) [])
    under_put k (g ∷ gs) e up = under_at (R e.0 g.0) k e g gs refl up (under_put k gs e up.1)

    -- the values of this key
    abbrev pub of_key : K → List (K × A) → List A
    of_key k es = map (λ e. e.1) (filter (λ e. eq_by_cmp R k e.0) es)

    key_at : (b : Bool) (e : K × A) (xs : List A) (es : List (K × A)) → (xs ++ cond b (e.1 ∷ []) []) ++ map (λ d. d.1) es ≡ xs ++ map (λ d. d.1) (cond b (e ∷ es) es)
    key_at true e xs es = append_assoc xs (e.1 ∷ []) (map (λ d. d.1) es)
    key_at false e xs es = ap (λ l. l ++ map (λ d. d.1) es) (append-nil xs)

    pub under_all : (k : K) (es : List (K × A)) (gs : List (K × List A)) → IsStrictlySortedBy R (keys_of gs) → under k (fold (put R) gs es) ≡ under k gs ++ of_key k es
    under_all k [] gs up = sym (append-nil (under k gs))
    under_all k (e ∷ es) gs up =
        under_all k es (put R gs e) (sorted_one o gs e up) ∙ ap (λ l. l ++ of_key k es) (under_put k gs e up) ∙ key_at (eq_by_cmp R k e.0) e (under k gs) (filter (λ d. eq_by_cmp R k d.0) es)

    first_apart : (l : K) (g : K × List A) (gs : List (K × List A)) → AllByRecursion (λ y. R l y ≡ Less) (keys_of gs) → In g gs → eq_by_cmp R g.0 l ≡ false
    first_apart l g [] above i = absurd i
    first_apart l g (x ∷ gs) above (inl e) = ap (λ (y : K × List A). eq_by_cmp R y.0 l) e ∙ less_apart l x.0 above.0
    first_apart l g (x ∷ gs) above (inr i) = first_apart l g gs above.1 i

    -- what stands under the key of a group is that group
    own : (g : K × List A) (gs : List (K × List A)) → IsStrictlySortedBy R (keys_of gs) → In g gs → under g.0 gs ≡ g.1
    unfolding IsStrictlySortedBy
    own g [] up i = absurd i
    own g (x ∷ gs) up (inl e) =
        ap (λ (y : K × List A). under y.0 (x ∷ gs)) e ∙ ap (λ b. cond b x.1 [] ++ under x.0 gs) ((eq_by_cmp_equiv o).refl x.0) ∙ ap (λ l. x.1 ++ l) (none_above x.0 x.0 gs ((eq_by_cmp_equiv o).refl x.0) up.0)
        ∙ append-nil x.1 ∙ ap (λ (y : K × List A). y.1) (sym e)
    own g (x ∷ gs) up (inr i) = ap (λ b. cond b x.1 [] ++ under g.0 gs) (first_apart x.0 g gs up.0 i) ∙ own g gs up.1 i

    pub sorted_all : (es : List (K × A)) (gs : List (K × List A)) → IsStrictlySortedBy R (keys_of gs) → IsStrictlySortedBy R (keys_of (fold (put R) gs es))
    sorted_all [] gs up = up
    sorted_all (e ∷ es) gs up = sorted_all es (put R gs e) (sorted_one o gs e up)

    of_group : (es : List (K × A)) (g : K × List A) → In g (groups R es) → g.1 ≡ of_key g.0 es
    unfolding groups
    of_group es g i = sym (own g (fold (put R) [] es) (sorted_all es [] nothing_sorted) i) ∙ under_all g.0 es [] nothing_sorted

    picked_at : (b : Bool) (k : K) (x : A) (es : List (K × A)) → map (λ e. e.1) (cond b ((k, x) ∷ es) es) ≡ cond b (x ∷ map (λ e. e.1) es) (map (λ e. e.1) es)
    picked_at true k x es = refl
    picked_at false k x es = refl

    picked : (k : K) (key : A → K) (xs : List A) → of_key k (keyed key xs) ≡ filter (λ x. eq_by_cmp R k (key x)) xs
    picked k key [] = refl
    picked k key (x ∷ xs) = picked_at (eq_by_cmp R k (key x)) (key x) x (filter (λ e. eq_by_cmp R k e.0) (keyed key xs)) ∙ ap (λ l. cond (eq_by_cmp R k (key x)) (x ∷ l) l) (picked k key xs)

    -- a group has the values whose keys tie with its own
    pub in_group : (key : A → K) (xs : List A) (g : K × List A) → In g (groups R (keyed key xs)) → g.1 ≡ filter (λ x. eq_by_cmp R g.0 (key x)) xs
    in_group key xs g i = of_group (keyed key xs) g i ∙ picked g.0 key xs

module _ {K A : Type 0} (R : K → K → Ordering) where
  abbrev values : List (K × List A) → List A
  values gs = flat_map (λ g. g.1) gs

  put_at : (r : Ordering) (y : A) (e : K × A) (g : K × List A) (gs : List (K × List A)) → (In y (values (put R gs e)) → In y (e.1 ∷ values gs))
      → In y (values (match_ordering r ((e.0, e.1 ∷ []) ∷ g ∷ gs) ((g.0, g.1 ++ e.1 ∷ []) ∷ gs) (g ∷ put R gs e))) → In y (e.1 ∷ values (g ∷ gs))
  put_at Less y e g gs rest i = i
  put_at Equal y e g gs rest i = elim (In-append y (g.1 ++ e.1 ∷ []) (values gs) i) [
    | inl here ↦ elim (In-append y g.1 (e.1 ∷ []) here) [
      | inl old ↦ inr (In-left y g.1 (values gs) old)
      | inr new ↦ elim new [ inl same ↦ inl same | inr none ↦ absurd none ]
    ]
    | inr later ↦ inr (In-right y g.1 (values gs) later)
  ]
  put_at Greater y e g gs rest i = elim (In-append y g.1 (values (put R gs e)) i) [
    | inl here ↦ inr (In-left y g.1 (values gs) here)
    | inr later ↦ elim (rest later) [ inl same ↦ inl same | inr old ↦ inr (In-right y g.1 (values gs) old) ]
  ]

  in_put : (y : A) (e : K × A) (gs : List (K × List A)) → In y (values (put R gs e)) → In y (e.1 ∷ values gs)
  in_put y e [] i = i
  in_put y e (g ∷ gs) i = put_at (R e.0 g.0) y e g gs (in_put y e gs) i

  in_fold : (key : A → K) (y : A) (xs : List A) (gs : List (K × List A)) → In y (values (fold (put R) gs (keyed key xs))) → In y (values gs ++ xs)
  in_fold key y [] gs i = In-left y (values gs) [] i
  in_fold key y (x ∷ xs) gs i = elim (In-append y (values (put R gs (key x, x))) xs (in_fold key y xs (put R gs (key x, x)) i)) [
    | inl here ↦ elim (in_put y (key x, x) gs here) [ inl same ↦ In-right y (values gs) (x ∷ xs) (inl same) | inr old ↦ In-left y (values gs) (x ∷ xs) old ]
    | inr later ↦ In-right y (values gs) (x ∷ xs) (inr later)
  ]

  -- what stands in an order stood there before
  pub in_ordered : (key : A → K) (y : A) (xs : List A) → In y (in_order R (keyed key xs)) → In y xs
  unfolding in_order groups
  in_ordered key y xs i = in_fold key y xs [] i
