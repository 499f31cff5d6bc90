-- How many keys change, and how many are new, when entries of distinct keys are joined into a map.
use Rattle.std.proofs.Common.{◌≡◌, ℕ, ◌+◌, Bool, true, false, not, cond, List, [], ◌∷◌, map, length, Option, Some, None, refl, sym, ap, subst, ◌∙◌, arith, is_some, count_by, zero-add}
use Rattle.std.specs.Prelude.{T, is_none}
use Rattle.std.specs.List.{IsDistinct, AllByRecursion}
use Rattle.std.specs.Option.{option_eq}
use Rattle.std.specs.declared.cmp.Ordering.{Ordering}
use Rattle.std.specs.declared.cmp.Ordering.TheVariants.{Less, Equal, Greater}
use Rattle.std.specs.Ordering.{eq_by_cmp, is_eq}
use Rattle.std.specs.Cmp.{IsTotalOrder, Equal-is}
use Rattle.std.specs.FinMap.{FinMap, IsAntisymmetric, get, keys, entries, entries_sorted, get-entries}
use Rattle.std.specs.FinMap.Entries.{by_order, find, is_sorted, below_all, put, find-put, is_sorted-put, length-put, same_entries}
use Rattle.std.proofs.lemmas.List.Sums.{sum_by-append}
use Rattle.point_kit.specs.Join.{join_options}
use Rattle.point_kit.specs.Changes.{changed_keys, differ_at}
use Rattle.gateway_kit.specs.Bringing.{is_new, is_change}
use Rattle.gateway_kit.proofs.Entries.{first, second, less, apart_less, itself}

pub unjoined : {V : Type 0} (join : V → V → V) (a : Option V) → a ≡ join_options join a None
unjoined join None = refl
unjoined join (Some v) = refl

pub count_cons : {A : Type 0} (p : A → Bool) (x : A) (xs : List A) → count_by p (x ∷ xs) ≡ cond (p x) 1 0 + count_by p xs
count_cons p x xs = sum_by-append (λ y. cond (p y) 1 0) (x ∷ []) xs ∙ ap (λ (n : ℕ). n + count_by p xs) (zero-add (cond (p x) 1 0))

pub count_none : {A : Type 0} (p : A → Bool) (xs : List A) → AllByRecursion (λ x. p x ≡ false) xs → count_by p xs ≡ 0
count_none p [] h = refl
count_none p (x ∷ xs) h = count_cons p x xs ∙ (λ i. cond (h.0 i) 1 0 + count_none p xs h.1 i)

pub count_map : {A B : Type 0} (p : B → Bool) (q : A → Bool) (f : A → B) → ((x : A) → p (f x) ≡ q x) → (xs : List A) → count_by p (map f xs) ≡ count_by q xs
count_map p q f same [] = refl
count_map p q f same (x ∷ xs) = count_cons p (f x) (map f xs) ∙ (λ i. cond (same x i) 1 0 + count_map p q f same xs i) ∙ sym (count_cons q x xs)

module _ {K V : Type 0} {R : K → K → Ordering} (o : IsTotalOrder R) (anti : IsAntisymmetric R) where
  -- what stood at the key did not count
  abbrev pub Uncounted : (K × V → Bool) → K → Option V → Type 0
  Uncounted p k None = Unit {0}
  Uncounted p k (Some v) = p (k, v) ≡ false

  pub count-put : (p : K × V → Bool) (k : K) (v : V) (es : List (K × V)) → T (is_sorted R es) → Uncounted p k (find R k es) → count_by p (put R k v es) ≡ count_by p es + cond (p (k, v)) 1 0
  count-put p k v [] h none = refl
  count-put p k v (e ∷ es) h none =
      elim (R k e.0) as (λ r. R k e.0 ≡ r → count_by p (by_order r ((k, v) ∷ e ∷ es) ((e.0, v) ∷ es) (e ∷ put R k v es)) ≡ count_by p (e ∷ es) + cond (p (k, v)) 1 0) [
        | Less ↦ λ t. let c = count_cons p (k, v) (e ∷ es) in omega (arith, c)
        | Equal ↦ λ t.
            let same : k ≡ e.0 = anti k e.0 t in
            let old : p e ≡ false = ap (λ x. p (x, e.1)) (sym same) ∙ subst (λ x. Uncounted p k x) (ap (λ r. cond (is_eq r) (Some e.1) (find R k es)) t) none in
            let c : count_by p ((e.0, v) ∷ es) ≡ cond (p (k, v)) 1 0 + count_by p es = count_cons p (e.0, v) es ∙ ap (λ x. cond (p (x, v)) 1 0 + count_by p es) (sym same) in
            let d : count_by p (e ∷ es) ≡ 0 + count_by p es = count_cons p e es ∙ ap (λ b. cond b 1 0 + count_by p es) old in
            omega (arith, c, d)
        | Greater ↦ λ t.
            let rest : count_by p (put R k v es) ≡ count_by p es + cond (p (k, v)) 1 0 = count-put p k v es (second _ _ h) (subst (λ x. Uncounted p k x) (ap (λ r. cond (is_eq r) (Some e.1) (find R k es)) t) none) in
            let c = count_cons p e (put R k v es) in
            let d = count_cons p e es in
            omega (arith, c, d, rest)
      ] refl

  module _ (join : V → V → V) (es : List (K × V)) (sorted : T (is_sorted R es)) where
    joined_value : Option V → V → V
    joined_value None w = w
    joined_value (Some v) w = join v w

    -- the entries joined in, one after the other
    pub all_joined : List (K × V) → List (K × V)
    all_joined [] = es
    all_joined (f ∷ fs) = put R f.0 (joined_value (find R f.0 es) f.1) (all_joined fs)

    pub sorted_joined : (fs : List (K × V)) → T (is_sorted R (all_joined fs))
    unfolding all_joined
    sorted_joined [] = sorted
    sorted_joined (f ∷ fs) = is_sorted-put R o f.0 (joined_value (find R f.0 es) f.1) (all_joined fs) (sorted_joined fs)

    one_joined : (a : Option V) (w : V) → Some (joined_value a w) ≡ join_options join a (Some w)
    unfolding joined_value
    one_joined None w = refl
    one_joined (Some v) w = refl

    pub find_joined : (fs : List (K × V)) (q : K) → find R q (all_joined fs) ≡ join_options join (find R q es) (find R q fs)
    unfolding all_joined
    find_joined [] q = unjoined join (find R q es)
    find_joined (f ∷ fs) q =
        find-put R o q f.0 (joined_value (find R f.0 es) f.1) (all_joined fs)
        ∙ elim (eq_by_cmp R q f.0) as (λ b. eq_by_cmp R q f.0 ≡ b → cond b (Some (joined_value (find R f.0 es) f.1)) (find R q (all_joined fs)) ≡ join_options join (find R q es) (cond b (Some f.1) (find R q fs))) [
          | true ↦ λ t. one_joined (find R f.0 es) f.1 ∙ ap (λ x. join_options join (find R x es) (Some f.1)) (sym (anti q f.0 ((Equal-is (R q f.0)).0 t)))
          | false ↦ λ t. find_joined fs q
        ] refl

    none_of_rest : (k : K) (fs : List (K × V)) → AllByRecursion (λ x. eq_by_cmp R k x ≡ false) (map (λ e. e.0) fs) → find R k fs ≡ None
    none_of_rest k [] h = refl
    none_of_rest k (f ∷ fs) h = ap (λ b. cond b (Some f.1) (find R k fs)) h.0 ∙ none_of_rest k fs h.1

    still : (f : K × V) (fs : List (K × V)) → AllByRecursion (λ x. eq_by_cmp R f.0 x ≡ false) (map (λ e. e.0) fs) → find R f.0 (all_joined fs) ≡ find R f.0 es
    still f fs h = find_joined fs f.0 ∙ ap (join_options join (find R f.0 es)) (none_of_rest f.0 fs h) ∙ sym (unjoined join (find R f.0 es))

    -- as many more as are new
    pub length_joined : (fs : List (K × V)) → IsDistinct (eq_by_cmp R) (map (λ e. e.0) fs) → length (all_joined fs) ≡ length es + count_by (is_new R es) fs
    unfolding all_joined IsDistinct
    length_joined [] h = omega arith
    length_joined (f ∷ fs) h =
        let rest : length (all_joined fs) ≡ length es + count_by (is_new R es) fs = length_joined fs h.1 in
        let put_one : length (put R f.0 (joined_value (find R f.0 es) f.1) (all_joined fs)) ≡ cond (is_some (find R f.0 es)) (length (all_joined fs)) (length (all_joined fs) + 1) =
        length-put R o f.0 (joined_value (find R f.0 es) f.1) (all_joined fs) (sorted_joined fs) ∙ ap (λ x. cond (is_some x) (length (all_joined fs)) (length (all_joined fs) + 1)) (still f fs h.0) in
        let c : count_by (is_new R es) (f ∷ fs) ≡ cond (is_none (find R f.0 es)) 1 0 + count_by (is_new R es) fs = count_cons (is_new R es) f fs in
        put_one ∙ longer (find R f.0 es) (length (all_joined fs)) (length es) (count_by (is_new R es) fs) (count_by (is_new R es) (f ∷ fs)) rest c
      where
        longer : (a : Option V) (n m k j : ℕ) → n ≡ m + k → j ≡ cond (is_none a) 1 0 + k → cond (is_some a) n (n + 1) ≡ m + j
        longer None n m k j p q = omega arith
        longer (Some v) n m k j p q = omega arith

    module _ (eq : V → V → Bool) (eq_itself : (v : V) → eq v v ≡ true) where
      abbrev pub changed : K × V → Bool
      changed e = not (option_eq eq (find R e.0 es) (Some e.1))

      uncounted : (k : K) (a : Option V) → find R k es ≡ a → Uncounted changed k a
      uncounted k None is = tt
      uncounted k (Some v) is = ap (λ x. not (option_eq eq x (Some v))) is ∙ ap not (eq_itself v)

      change_of : (a : Option V) (w : V) → not (option_eq eq a (Some (joined_value a w))) ≡ not (option_eq eq a (join_options join a (Some w)))
      unfolding joined_value
      change_of None w = refl
      change_of (Some v) w = refl

      pub count_joined : (fs : List (K × V)) → IsDistinct (eq_by_cmp R) (map (λ e. e.0) fs) → count_by changed (all_joined fs) ≡ count_by changed es + count_by (is_change R join eq es) fs
      unfolding all_joined IsDistinct
      count_joined [] h = omega arith
      count_joined (f ∷ fs) h =
          let rest : count_by changed (all_joined fs) ≡ count_by changed es + count_by (is_change R join eq es) fs = count_joined fs h.1 in
          let put_one : count_by changed (put R f.0 (joined_value (find R f.0 es) f.1) (all_joined fs)) ≡ count_by changed (all_joined fs) + cond (not (option_eq eq (find R f.0 es) (Some (joined_value (find R f.0 es) f.1)))) 1 0 =
          count-put changed f.0 (joined_value (find R f.0 es) f.1) (all_joined fs) (sorted_joined fs) (subst (Uncounted changed f.0) (sym (still f fs h.0)) (uncounted f.0 (find R f.0 es) refl)) in
          let c : count_by (is_change R join eq es) (f ∷ fs) ≡ cond (not (option_eq eq (find R f.0 es) (join_options join (find R f.0 es) (Some f.1)))) 1 0 + count_by (is_change R join eq es) fs = count_cons (is_change R join eq es) f fs in
          let d : ◌≡◌ {A = ℕ} (cond (not (option_eq eq (find R f.0 es) (Some (joined_value (find R f.0 es) f.1)))) 1 0) (cond (not (option_eq eq (find R f.0 es) (join_options join (find R f.0 es) (Some f.1)))) 1 0) = ap (λ b. cond b 1 0) (change_of (find R f.0 es) f.1) in
          omega (arith, put_one, c, d, rest)

-- all entries of a list in order are found in it
module _ {K V : Type 0} {R : K → K → Ordering} (o : IsTotalOrder R) where
  lifted : (x : K × V) (xs ys : List (K × V)) → T (below_all R x.0 ys) → AllByRecursion (λ e. find R e.0 xs ≡ Some e.1) ys → AllByRecursion (λ e. find R e.0 (x ∷ xs) ≡ Some e.1) ys
  lifted x xs [] h all = tt
  lifted x xs (y ∷ ys) h all = (ap (λ b. cond b (Some x.1) (find R y.0 xs)) (apart_less o x.0 y.0 (less _ (first _ _ h))) ∙ all.0, lifted x xs ys (second _ _ h) all.1)

  pub all_found : (es : List (K × V)) → T (is_sorted R es) → AllByRecursion (λ e. find R e.0 es ≡ Some e.1) es
  all_found [] h = tt
  all_found (x ∷ xs) h = (ap (λ b. cond b (Some x.1) (find R x.0 xs)) (itself o x.0), lifted x xs xs (first _ _ h) (all_found xs (second _ _ h)))

pub count_where : {A B : Type 0} (P : A → Type 0) (p : B → Bool) (q : A → Bool) (f : A → B) → ((x : A) → P x → p (f x) ≡ q x) → (xs : List A) → AllByRecursion P xs → count_by p (map f xs) ≡ count_by q xs
count_where P p q f same [] all = refl
count_where P p q f same (x ∷ xs) all = count_cons p (f x) (map f xs) ∙ (λ i. cond (same x all.0 i) 1 0 + count_where P p q f same xs all.1 i) ∙ sym (count_cons q x xs)

count_never : {A : Type 0} (xs : List A) → count_by (λ x. false) xs ≡ 0
count_never [] = refl
count_never (x ∷ xs) = count_cons (λ y. false) x xs ∙ zero-add (count_by (λ y. false) xs) ∙ count_never xs

all_map : {A : Type 0} (xs : List A) → map (λ x. x) xs ≡ xs
all_map [] = refl
all_map (x ∷ xs) = ap (λ l. x ∷ l) (all_map xs)

module _ {K V : Type 0} {R : K → K → Ordering} (o : IsTotalOrder R) (anti : IsAntisymmetric R) (join : V → V → V) (m n : FinMap R V) (fs : List (K × V)) (apart : IsDistinct (eq_by_cmp R) (map (λ e. e.0) fs)) (is : (q : K) → get n q ≡ join_options join (get m q) (find R q fs)) where
  entries_joined : entries n ≡ all_joined o anti join (entries m) (entries_sorted m) fs
  entries_joined =
      same_entries R o anti (entries n) (all_joined o anti join (entries m) (entries_sorted m) fs) (entries_sorted n) (sorted_joined o anti join (entries m) (entries_sorted m) fs)
      (λ q. sym (get-entries n q) ∙ is q ∙ ap (λ x. join_options join x (find R q fs)) (get-entries m q) ∙ sym (find_joined o anti join (entries m) (entries_sorted m) fs q))

  -- how long the join is
  pub longer_by : length (entries n) ≡ length (entries m) + count_by (is_new R (entries m)) fs
  longer_by = ap length entries_joined ∙ length_joined o anti join (entries m) (entries_sorted m) fs apart

  module _ (eq : V → V → Bool) (eq_itself : (v : V) → eq v v ≡ true) where
    abbrev differs_from : K × V → Bool
    differs_from e = not (option_eq eq (find R e.0 (entries m)) (Some e.1))

    kept : (a t : Option V) (v : V) → a ≡ Some v → is_none (join_options join a t) ≡ false
    kept a None v e = ap (λ x. is_none (join_options join x None)) e
    kept a (Some w) v e = ap (λ x. is_none (join_options join x (Some w))) e

    -- how many keys change
    pub changes_by : changed_keys eq m n ≡ count_by (is_change R join eq (entries m)) fs
    unfolding changed_keys
    changes_by =
        let now : count_by (differ_at eq m n) (keys n) ≡ count_by differs_from (entries n) =
        count_where (λ e. find R e.0 (entries n) ≡ Some e.1) (differ_at eq m n) differs_from (λ e. e.0)
        (λ e there. (λ i. not (option_eq eq (get-entries m e.0 i) ((get-entries n e.0 ∙ there) i))))
        (entries n) (all_found o (entries n) (entries_sorted n)) in
        let before : count_by (λ k. is_none (get n k)) (keys m) ≡ 0 =
        count_where (λ e. find R e.0 (entries m) ≡ Some e.1) (λ k. is_none (get n k)) (λ e. false) (λ e. e.0)
        (λ e there. ap is_none (is e.0) ∙ kept (get m e.0) (find R e.0 fs) e.1 (get-entries m e.0 ∙ there))
        (entries m) (all_found o (entries m) (entries_sorted m)) ∙ count_never (entries m) in
        let own : count_by differs_from (entries m) ≡ 0 =
        ap (count_by differs_from) (sym (all_map (entries m)))
        ∙ count_where (λ e. find R e.0 (entries m) ≡ Some e.1) differs_from (λ e. false) (λ e. e)
        (λ e there. ap (λ x. not (option_eq eq x (Some e.1))) there ∙ ap not (eq_itself e.1))
        (entries m) (all_found o (entries m) (entries_sorted m)) ∙ count_never (entries m) in
        let joined : count_by differs_from (entries n) ≡ count_by differs_from (entries m) + count_by (is_change R join eq (entries m)) fs =
        ap (count_by differs_from) entries_joined ∙ count_joined o anti join (entries m) (entries_sorted m) eq eq_itself fs apart in
        omega (arith, now, before, own, joined)
