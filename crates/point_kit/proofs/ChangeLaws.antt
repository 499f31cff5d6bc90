-- Counting the keys at which two maps differ.
use mathlib.Core.Bool.{true≢false}
use Rattle.std.proofs.Common.{◌≡◌, ℕ, ◌+◌, Bool, true, false, not, cond, ◌||◌, ◌&&◌, T, List, [], ◌∷◌, map, length, count_by, Option, Some, None, is_none, is_some, refl, sym, ap, subst, ◌∙◌, arith}
use Rattle.std.proofs.lemmas.List.Sums.{sum_by-cons}
use Rattle.std.specs.Cmp.{IsTotalOrder, tied_itself, Equal-is}
use Rattle.std.specs.FinMap.{FinMap, get, get-entries, keys, entries, entries_sorted, find, is_sorted, contains_key-keys, IsAntisymmetric, same_map}
use Rattle.std.specs.FinMap.Entries.{below_all, where_key, is_sorted-where_key, find-where_key, same_entries}
use Rattle.std.specs.List.{list_any}
use Rattle.std.specs.Option.{option_eq, option_map}
use Rattle.std.specs.Ordering.{eq_by_cmp, is_eq, is_lt}
use Rattle.std.specs.declared.cmp.Ordering.{Ordering}
use Rattle.attr_kit.specs.Exact.{IsExact, exact_options}
use Rattle.point_kit.specs.Changes.{differ_at, changed_keys}
use Rattle.point_kit.specs.Join.{join_options}
use Rattle.point_kit.specs.States.{join_maps}
use Rattle.point_kit.proofs.StateLaws.{get-join_maps}

or_right : (a b : Bool) → b ≡ true → (a || b) ≡ true
or_right true b e = refl
or_right false b e = e

not_true : (b : Bool) → b ≡ true → not b ≡ true → ⊥
not_true true e n = true≢false (sym n)
not_true false e n = true≢false (sym e)

was_true : (b : Bool) → not b ≡ false → b ≡ true
was_true true e = refl
was_true false e = absurd (true≢false e)

count_cons : {A : Type 0} (p : A → Bool) (x : A) (xs : List A) → count_by p (x ∷ xs) ≡ cond (p x) 1 0 + count_by p xs
count_cons p x xs = sum_by-cons (λ y. cond (p y) 1 0) x xs

-- neither of two counts is above 0
no_first : (b : Bool) (n : ℕ) → cond b 1 0 + n ≡ 0 → b ≡ false
no_first true n e = absurd (omega arith)
no_first false n e = refl

no_rest : (m n : ℕ) → m + n ≡ 0 → n ≡ 0
no_rest m n e = omega arith

no_left : (m n : ℕ) → m + n ≡ 0 → m ≡ 0
no_left m n e = omega arith

marks : {X Y : Type 0} (a : Option X) (b : Option Y) → is_some a ≡ is_some b → option_map (λ _. true) a ≡ option_map (λ _. true) b
marks None None e = refl
marks None (Some b) e = absurd (true≢false (sym e))
marks (Some a) None e = absurd (true≢false e)
marks (Some a) (Some b) e = refl

-- entries without their values
abbrev bare : {K X : Type 0} → List (K × X) → List (K × Bool)
bare es = map (λ e. (e.0, true)) es

module _ {K : Type 0} (R : K → K → Ordering) {X : Type 0} where
  below_bare : (x : K) (es : List (K × X)) → below_all R x (bare es) ≡ below_all R x es
  below_bare x [] = refl
  below_bare x (e ∷ es) = ap (λ b. is_lt (R x e.0) && b) (below_bare x es)

  sorted_bare : (es : List (K × X)) → is_sorted R (bare es) ≡ is_sorted R es
  sorted_bare [] = refl
  sorted_bare (e ∷ es) = λ i. below_bare e.0 es i && sorted_bare es i

  find_bare : (q : K) (es : List (K × X)) → find R q (bare es) ≡ option_map (λ _. true) (find R q es)
  find_bare q [] = refl
  find_bare q (e ∷ es) = elim (eq_by_cmp R q e.0) as (λ b. cond b (Some true) (find R q (bare es)) ≡ option_map (λ _. true) (cond b (Some e.1) (find R q es))) [ true ↦ refl | false ↦ find_bare q es ]

  count_where : (p : K → Bool) (es : List (K × X)) → length (bare (where_key R p es)) ≡ count_by p (map (λ e. e.0) es)
  count_where p [] = refl
  count_where p (e ∷ es) =
      let rest = count_where p es in
      elim (p e.0) as (λ b. length (bare (cond b (e ∷ where_key R p es) (where_key R p es))) ≡ cond b 1 0 + count_by p (map (λ x. x.0) es)) [ true ↦ omega (arith, rest) | false ↦ omega (arith, rest) ]
      ∙ sym (count_cons p e.0 (map (λ x. x.0) es))

module _ {K : Type 0} {R : K → K → Ordering} (o : IsTotalOrder R) where
  -- a key is among keys that begin with it
  first_key : (k : K) (ks : List K) → list_any (eq_by_cmp R k) (k ∷ ks) ≡ true
  first_key k ks = ap (λ r. is_eq r || list_any (eq_by_cmp R k) ks) (tied_itself o k)

  -- none is counted where none of the keys passes
  none_counted : (p : K → Bool) (ks : List K) → ((q : K) → list_any (eq_by_cmp R q) ks ≡ true → p q ≡ false) → count_by p ks ≡ 0
  none_counted p [] h = refl
  none_counted p (k ∷ ks) h = count_cons p k ks ∙ (λ i. cond (h k (first_key k ks) i) 1 0 + none_counted p ks (λ q e. h q (or_right (eq_by_cmp R q k) _ e)) i)

  here : {X : Type 0} (m : FinMap R X) (q : K) → list_any (eq_by_cmp R q) (keys m) ≡ true → is_some (get m q) ≡ true
  here m q e = contains_key-keys m q ∙ e

  module _ (anti : IsAntisymmetric R) where
    none_passes : (p : K → Bool) (ks : List K) → count_by p ks ≡ 0 → (q : K) → list_any (eq_by_cmp R q) ks ≡ true → p q ≡ false
    none_passes p [] e q h = absurd (true≢false (sym h))
    none_passes p (k ∷ ks) e q h =
        let counted = sym (count_cons p k ks) ∙ e in
        elim (eq_by_cmp R q k) as (λ b. eq_by_cmp R q k ≡ b → (b || list_any (eq_by_cmp R q) ks) ≡ true → p q ≡ false) [
          | true ↦ λ t _. ap p (anti q k ((Equal-is (R q k)).0 t)) ∙ no_first (p k) _ counted
          | false ↦ λ _ rest. none_passes p ks (no_rest (cond (p k) 1 0) _ counted) q rest
        ] refl h

    found_where : {X : Type 0} (p : K → Bool) (m : FinMap R X) (q : K) → find R q (bare (where_key R p (entries m))) ≡ option_map (λ _. true) (cond (p q) (get m q) None)
    found_where p m q =
        find_bare R q (where_key R p (entries m))
        ∙ ap (option_map (λ _. true)) (find-where_key R p q (λ x t. ap p (sym (anti q x t))) (entries m) ∙ ap (λ v. cond (p q) v None) (sym (get-entries m q)))

    sorted_where : {X : Type 0} (p : K → Bool) (m : FinMap R X) → T (is_sorted R (bare (where_key R p (entries m))))
    sorted_where p m = subst T (sym (sorted_bare R (where_key R p (entries m)))) (is_sorted-where_key R p (entries m) (entries_sorted m))

    -- as many keys of the one pass as of the other, where the ones that pass are in both or in none
    pub same_counts : {X Y : Type 0} (p : K → Bool) (m : FinMap R X) (n : FinMap R Y) → ((q : K) → p q ≡ true → is_some (get m q) ≡ is_some (get n q)) → count_by p (keys m) ≡ count_by p (keys n)
    same_counts p m n h =
        let alike : (q : K) (b : Bool) → p q ≡ b → option_map (λ _. true) (cond b (get m q) None) ≡ option_map (λ _. true) (cond b (get n q) None) = λ q b. elim b as (λ b. p q ≡ b → option_map (λ _. true) (cond b (get m q) None) ≡ option_map (λ _. true) (cond b (get n q) None)) [ true ↦ λ e. marks (get m q) (get n q) (h q e) | false ↦ λ e. refl ] in
        sym (count_where R p (entries m))
        ∙ ap length (same_entries R o anti _ _ (sorted_where p m) (sorted_where p n) (λ q. found_where p m q ∙ alike q (p q) refl ∙ sym (found_where p n q)))
        ∙ count_where R p (entries n)

    module _ {V : Type 0} (eq : V → V → Bool) (itself : (v : V) → eq v v ≡ true) where
      option_itself : (v : Option V) → option_eq eq v v ≡ true
      option_itself None = refl
      option_itself (Some v) = itself v

      -- no key changes where nothing does
      pub changed_keys-same : (m : FinMap R V) → changed_keys eq m m ≡ 0
      unfolding changed_keys
      changed_keys-same m = λ i.
          none_counted (differ_at eq m m) (keys m) (λ q e. ap not (option_itself (get m q))) i
          + none_counted (λ k. is_none (get m k)) (keys m) (λ q e. ap not (here m q e)) i

      -- a join loses no key
      kept : (join : V → V → V) (a b : Option V) → is_some a ≡ true → is_none (join_options join a b) ≡ false
      kept join None b e = absurd (true≢false (sym e))
      kept join (Some a) None e = refl
      kept join (Some a) (Some b) e = refl

      -- and changes no key that only the first has
      moved : (join : V → V → V) (a b : Option V) → not (option_eq eq a (join_options join a b)) ≡ true → is_some (join_options join a b) ≡ is_some b
      moved join None b d = refl
      moved join (Some a) None d = absurd (not_true (eq a a) (itself a) d)
      moved join (Some a) (Some b) d = refl

      none_lost : (join : V → V → V) (m x : FinMap R V) → count_by (λ k. is_none (get (join_maps join m x) k)) (keys m) ≡ 0
      none_lost join m x = none_counted (λ k. is_none (get (join_maps join m x) k)) (keys m) (λ q e. ap is_none (get-join_maps o anti join m x q) ∙ kept join (get m q) (get x q) (here m q e))

      zero_more : (a b c : ℕ) → a ≡ c → b ≡ 0 → a + b ≡ c
      zero_more a b c e z = omega arith

      -- the keys that a join changes, counted over all that it has
      pub changed_keys-join : (join : V → V → V) (m x : FinMap R V) → changed_keys eq m (join_maps join m x) ≡ count_by (differ_at eq m (join_maps join m x)) (keys (join_maps join m x))
      unfolding changed_keys
      changed_keys-join join m x = zero_more _ _ _ refl (none_lost join m x)

      -- and over what comes in
      pub changed_keys-incoming : (join : V → V → V) (m x : FinMap R V) → changed_keys eq m (join_maps join m x) ≡ count_by (differ_at eq m (join_maps join m x)) (keys x)
      changed_keys-incoming join m x =
          let at = get-join_maps o anti join m x in
          changed_keys-join join m x
          ∙ same_counts (differ_at eq m (join_maps join m x)) (join_maps join m x) x (λ q d. ap is_some (at q) ∙ moved join (get m q) (get x q) (ap (λ v. not (option_eq eq (get m q) v)) (sym (at q)) ∙ d))

    -- where no key changes, nothing does
    pub unchanged : {V : Type 0} (eq : V → V → Bool) → IsExact eq → (m n : FinMap R V) → changed_keys eq m n ≡ 0 → m ≡ n
    unfolding changed_keys
    unchanged {V} eq exact m n e = same_map o anti m n (λ q. at q (get m q) (get n q) refl refl)
      where
        at : (q : K) (a b : Option V) → get m q ≡ a → get n q ≡ b → get m q ≡ get n q
        at q a (Some w) p r = exact_options exact (get m q) (get n q) (was_true _ (none_passes (differ_at eq m n) (keys n) (no_left _ _ e) q (sym (contains_key-keys n q) ∙ ap is_some r)))
        at q None None p r = p ∙ sym r
        at q (Some v) None p r = absurd (true≢false (ap is_none (sym r) ∙ none_passes (λ k. is_none (get n k)) (keys m) (no_rest _ _ e) q (sym (contains_key-keys m q) ∙ ap is_some p)))
