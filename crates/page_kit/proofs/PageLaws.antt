-- Rows have labels that differ, and families names that differ.
use Rattle.std.proofs.Common.{◌≡◌, ℕ, ◌||◌, Bool, true, false, cond, List, [], ◌∷◌, ◌++◌, fold, refl, sym, ap, ◌∙◌, subst}
use Rattle.std.specs.BTreeSet.{insert_key}
use Rattle.std.specs.Cmp.{IsTotalOrder}
use Rattle.std.specs.List.{AllByRecursion, list_any}
use Rattle.std.specs.List.Sorted.{IsStrictlySortedBy}
use Rattle.std.specs.Map.{keys_of}
use Rattle.std.specs.Ordering.{match_ordering, ordering_reverse}
use Rattle.std.specs.declared.cmp.Ordering.{Ordering}
use Rattle.std.specs.declared.cmp.Ordering.TheVariants.{Less, Equal, Greater}
use Rattle.std.proofs.lemmas.Cmp.{lists_total}
use Rattle.page_kit.specs.Families.{Measured, is_claimed, are_claimed, own_names, shown_after, ranked, metrics_of}
use Rattle.page_kit.specs.Groups.{keyed, put, groups}
use Rattle.page_kit.specs.Labels.{labels_cmp, row_labels}
use Rattle.page_kit.specs.Laws.{RowsDiffer, FamiliesDiffer, AreDisjoint}
use Rattle.page_kit.specs.Metrics.{claims}
use Rattle.page_kit.specs.Names.{same}
use Rattle.page_kit.specs.Rows.{rows}
use Rattle.page_kit.specs.Totals.{KeyedCell}
use Rattle.page_kit.specs.contracts.labels.LabelOrd.TheImpl.Laws as label_laws

module _ {K A : Type 0} (R : K → K → Ordering) where
  keys_at : (r : Ordering) (k : K) (a : A) (g : K × List A) (gs : List (K × List A)) → keys_of (put R gs (k, a)) ≡ insert_key R (keys_of gs) k
      → keys_of (match_ordering r ((k, a ∷ []) ∷ g ∷ gs) ((g.0, g.1 ++ a ∷ []) ∷ gs) (g ∷ put R gs (k, a))) ≡ match_ordering r (k ∷ g.0 ∷ keys_of gs) (g.0 ∷ keys_of gs) (g.0 ∷ insert_key R (keys_of gs) k)
  keys_at Less k a g gs rest = refl
  keys_at Equal k a g gs rest = refl
  keys_at Greater k a g gs rest = ap (λ (l : List K). g.0 ∷ l) rest

  -- the keys of groups are those of a set
  keys_put : (gs : List (K × List A)) (k : K) (a : A) → keys_of (put R gs (k, a)) ≡ insert_key R (keys_of gs) k
  keys_put [] k a = refl
  keys_put (g ∷ gs) k a = keys_at (R k g.0) k a g gs (keys_put gs k a)

module _ {K : Type 0} {R : K → K → Ordering} (o : IsTotalOrder R) where
  all_below : (k x : K) (ys : List K) → R k x ≡ Less → AllByRecursion (λ y. R x y ≡ Less) ys → AllByRecursion (λ y. R k y ≡ Less) ys
  all_below k x [] h all = tt
  all_below k x (y ∷ ys) h all = (o.trans k x y h all.0, all_below k x ys h all.1)

  below_at : (r : Ordering) (x k y : K) (ys : List K) → R x k ≡ Less → AllByRecursion (λ z. R x z ≡ Less) (y ∷ ys) → AllByRecursion (λ z. R x z ≡ Less) (insert_key R ys k)
      → AllByRecursion (λ z. R x z ≡ Less) (match_ordering r (k ∷ y ∷ ys) (y ∷ ys) (y ∷ insert_key R ys k))
  below_at Less x k y ys h all rest = (h, all)
  below_at Equal x k y ys h all rest = all
  below_at Greater x k y ys h all rest = (all.0, rest)

  below_put : (x k : K) (ys : List K) → R x k ≡ Less → AllByRecursion (λ y. R x y ≡ Less) ys → AllByRecursion (λ y. R x y ≡ Less) (insert_key R ys k)
  below_put x k [] h all = (h, tt)
  below_put x k (y ∷ ys) h all = below_at (R k y) x k y ys h all (below_put x k ys h all.1)

  sorted_at : (r : Ordering) (k x : K) (xs : List K) → R k x ≡ r → IsStrictlySortedBy R (x ∷ xs) → IsStrictlySortedBy R (insert_key R xs k) → IsStrictlySortedBy R (match_ordering r (k ∷ x ∷ xs) (x ∷ xs) (x ∷ insert_key R xs k))
  unfolding IsStrictlySortedBy
  sorted_at Less k x xs e s rest = ((e, all_below k x xs e s.0), s)
  sorted_at Equal k x xs e s rest = s
  sorted_at Greater k x xs e s rest = (below_put x k xs (o.antisymm x k ∙ ap ordering_reverse e) s.0, rest)

  sorted_put : (k : K) (xs : List K) → IsStrictlySortedBy R xs → IsStrictlySortedBy R (insert_key R xs k)
  unfolding IsStrictlySortedBy
  sorted_put k [] s = (tt, tt)
  sorted_put k (x ∷ xs) s = sorted_at (R k x) k x xs refl s (sorted_put k xs s.1)

  -- with one value more the keys of groups differ still
  pub sorted_one : {A : Type 0} (gs : List (K × List A)) (e : K × A) → IsStrictlySortedBy R (keys_of gs) → IsStrictlySortedBy R (keys_of (put R gs e))
  sorted_one gs e s = subst (λ (ks : List K). IsStrictlySortedBy R ks) (sym (keys_put R gs e.0 e.1)) (sorted_put e.0 (keys_of gs) s)

  -- the keys of groups differ
  pub sorted_groups : {A : Type 0} (es : List (K × A)) (gs : List (K × List A)) → IsStrictlySortedBy R (keys_of gs) → IsStrictlySortedBy R (keys_of (fold (put R) gs es))
  sorted_groups [] gs s = s
  sorted_groups (e ∷ es) gs s = sorted_groups es (put R gs e) (sorted_one gs e s)

pub labels_total : IsTotalOrder labels_cmp
labels_total = lists_total label_laws.total-law

pub rows_differ : RowsDiffer
unfolding rows groups IsStrictlySortedBy
rows_differ cells = sorted_groups labels_total (keyed (λ (e : KeyedCell). row_labels e.0) cells) [] tt

or_no : (a b : Bool) → (a || b) ≡ false → (a ≡ false) × (b ≡ false)
or_no true b e = absurd cc
or_no false b e = (refl, e)

both_no : (a b : Bool) → a ≡ false → b ≡ false → (a || b) ≡ false
both_no a b e f = ap (λ (c : Bool). c || b) e ∙ f

-- what is not among some names is not among others
abbrev Lacks : List (List ℕ) → List (List ℕ) → Type 0
Lacks fewer more = (name : List ℕ) → list_any (same name) more ≡ false → list_any (same name) fewer ≡ false

names_free : (fewer more : List (List ℕ)) → Lacks fewer more → (names : List (List ℕ)) → are_claimed more names ≡ false → are_claimed fewer names ≡ false
names_free fewer more lacks [] e = refl
names_free fewer more lacks (n ∷ ns) e =
    let p = or_no (list_any (same n) more) (are_claimed more ns) e in
    both_no (list_any (same n) fewer) (are_claimed fewer ns) (lacks n p.0) (names_free fewer more lacks ns p.1)

lacks_with : (fewer more : List (List ℕ)) → Lacks fewer more → (xs : List (List ℕ)) → Lacks (xs ++ fewer) (xs ++ more)
lacks_with fewer more lacks [] = lacks
lacks_with fewer more lacks (x ∷ xs) = λ name e.
    let p = or_no (same name x) (list_any (same name) (xs ++ more)) e in
    both_no (same name x) (list_any (same name) (xs ++ fewer)) p.0 (lacks_with fewer more lacks xs name p.1)

lacks_behind : (xs names : List (List ℕ)) → Lacks names (xs ++ names)
lacks_behind [] names = λ name e. e
lacks_behind (x ∷ xs) names = λ name e. lacks_behind xs names name (or_no (same name x) (list_any (same name) (xs ++ names)) e).1

still_disjoint : (fewer more : List (List ℕ)) → Lacks fewer more → (ms : List Measured) → AreDisjoint more ms → AreDisjoint fewer ms
still_disjoint fewer more lacks [] d = tt
still_disjoint fewer more lacks (m ∷ ms) d = (names_free fewer more lacks (claims m.0) d.0, still_disjoint (claims m.0 ++ fewer) (claims m.0 ++ more) (lacks_with fewer more lacks (claims m.0)) ms d.1)

disjoint_at : (b : Bool) (claimed : List (List ℕ)) (m : Measured) (rest : List Measured) → is_claimed claimed m ≡ b → AreDisjoint (claims m.0 ++ claimed) rest → AreDisjoint claimed (cond b rest (m ∷ rest))
disjoint_at true claimed m rest is d = still_disjoint claimed (claims m.0 ++ claimed) (lacks_behind (claims m.0) claimed) rest d
disjoint_at false claimed m rest is d = (is, d)

disjoint : (claimed : List (List ℕ)) (ms : List Measured) → AreDisjoint claimed (shown_after claimed ms)
disjoint claimed [] = tt
disjoint claimed (m ∷ ms) = disjoint_at (is_claimed claimed m) claimed m (shown_after (claims m.0 ++ claimed) ms) refl (disjoint (claims m.0 ++ claimed) ms)

pub families_differ : FamiliesDiffer
families_differ cells = disjoint own_names (ranked (metrics_of cells))
