-- Sums over lists and maps.
use Rattle.std.proofs.Common.{◌≡◌, ◌+◌, Bool, true, false, cond, ◌&&◌, ◌||◌, inl, inr, List, [], ◌∷◌, ◌++◌, map, filter, Some, None, refl, sym, ap, subst, ◌∙◌, arith, length}
use Rattle.std.specs.List.{flat_map, list_any}
use Rattle.std.specs.declared.cmp.Ordering.{Ordering}
use Rattle.std.specs.declared.cmp.Ordering.TheVariants.{Less, Equal, Greater}
use Rattle.std.specs.Ordering.{is_eq}
use Rattle.std.specs.Cmp.{IsTotalOrder, IsEquivalence}
use Rattle.std.specs.FinMap.{IsAntisymmetric, find, from_entries, entries, entries-insert, get-entries, get-from_entries, len-entries, len-empty}
use Rattle.std.specs.FinMap.Entries.{put, by_order}
use Rattle.std.specs.FinMap as finmap
use Rattle.attr_kit.specs.Exact.{IsExact}
use Rattle.schedule_kit.specs.Members.{In, Once}
use Rattle.schedule_kit.specs.Totals.{IsSum, total, total_where}

no_length : {A : Type 0} (xs : List A) → length xs ≡ 0 → xs ≡ []
no_length [] e = refl
no_length (x ∷ xs) e = absurd (omega arith)

-- tests added up
pub any_sum : IsSum false ◌||◌
any_sum = record {
  assoc = λ a b c. elim a as (λ a. ((a || b) || c) ≡ (a || (b || c))) [ true ↦ refl | false ↦ refl ];
  comm = λ a b. elim a as (λ a. (a || b) ≡ (b || a)) [ true ↦ elim b as (λ b. true ≡ (b || true)) [ true ↦ refl | false ↦ refl ] | false ↦ elim b as (λ b. b ≡ (b || false)) [ true ↦ refl | false ↦ refl ] ];
  zero_left = λ a. refl;
}

-- counts added up
pub count_sum : IsSum 0 ◌+◌
count_sum = record { assoc = λ a b c. omega arith; comm = λ a b. omega arith; zero_left = λ a. omega arith }

-- whether one of the groups passes
pub any-total : {A G : Type 0} (eq : G → Bool) (asks : A → Bool) (group : A → G) (xs : List A) → list_any eq (map group (filter asks xs)) ≡ total false ◌||◌ (λ x. asks x && eq (group x)) xs
any-total eq asks group [] = refl
any-total eq asks group (x ∷ xs) =
    let rest = any-total eq asks group xs in
    elim (asks x) as (λ b. list_any eq (map group (cond b (x ∷ filter asks xs) (filter asks xs))) ≡ (b && eq (group x)) || total false ◌||◌ (λ x. asks x && eq (group x)) xs) [
      | true ↦ ap (λ b. eq (group x) || b) rest
      | false ↦ rest
    ]

module _ {V : Type 0} (zero : V) (plus : V → V → V) (sum : IsSum zero plus) where
  zero_right : (a : V) → plus a zero ≡ a
  zero_right a = sum.comm a zero ∙ sum.zero_left a

  swap_first : (a b c : V) → plus a (plus b c) ≡ plus b (plus a c)
  swap_first a b c = sym (sum.assoc a b c) ∙ ap (λ x. plus x c) (sum.comm a b) ∙ sum.assoc b a c

  swap_inner : (a b c d : V) → plus (plus a b) (plus c d) ≡ plus (plus a c) (plus b d)
  swap_inner a b c d = sum.assoc a b (plus c d) ∙ ap (plus a) (swap_first b c d) ∙ sym (sum.assoc a c (plus b d))

  module _ {A : Type 0} where
    pub total-append : (f : A → V) (xs ys : List A) → total zero plus f (xs ++ ys) ≡ plus (total zero plus f xs) (total zero plus f ys)
    total-append f [] ys = sym (sum.zero_left _)
    total-append f (x ∷ xs) ys = ap (plus (f x)) (total-append f xs ys) ∙ sym (sum.assoc (f x) _ _)

    pub total_same : (f g : A → V) (xs : List A) → ((x : A) → In x xs → f x ≡ g x) → total zero plus f xs ≡ total zero plus g xs
    total_same f g [] h = refl
    total_same f g (x ∷ xs) h = ap (λ a. plus a (total zero plus f xs)) (h x (inl refl)) ∙ ap (plus (g x)) (total_same f g xs (λ y i. h y (inr i)))

    pub total_zero : (f : A → V) (xs : List A) → ((x : A) → In x xs → f x ≡ zero) → total zero plus f xs ≡ zero
    total_zero f [] h = refl
    total_zero f (x ∷ xs) h = ap (λ a. plus a (total zero plus f xs)) (h x (inl refl)) ∙ sum.zero_left _ ∙ total_zero f xs (λ y i. h y (inr i))

    pub total_plus : (f g : A → V) (xs : List A) → total zero plus (λ x. plus (f x) (g x)) xs ≡ plus (total zero plus f xs) (total zero plus g xs)
    total_plus f g [] = sym (sum.zero_left zero)
    total_plus f g (x ∷ xs) = ap (plus (plus (f x) (g x))) (total_plus f g xs) ∙ swap_inner (f x) (g x) _ _

  module _ {A B : Type 0} where
    pub total-map : (f : B → V) (g : A → B) (xs : List A) → total zero plus f (map g xs) ≡ total zero plus (λ x. f (g x)) xs
    total-map f g [] = refl
    total-map f g (x ∷ xs) = ap (plus (f (g x))) (total-map f g xs)

    pub total-flat_map : (f : B → V) (g : A → List B) (xs : List A) → total zero plus f (flat_map g xs) ≡ total zero plus (λ x. total zero plus f (g x)) xs
    total-flat_map f g [] = refl
    total-flat_map f g (x ∷ xs) = total-append f (g x) (flat_map g xs) ∙ ap (plus (total zero plus f (g x))) (total-flat_map f g xs)

  -- values under names, added up name by name
  module _ {X : Type 0} (eq : X → X → Bool) (laws : IsEquivalence eq) (exact : IsExact eq) (c : X → Bool) where
    total_one : (y : X) (v : V) (ks : List X) → Once ks → In y ks → total zero plus (λ x. cond (c x) (cond (eq x y) v zero) zero) ks ≡ cond (c y) v zero
    total_one y v [] once i = absurd i
    total_one y v (x ∷ ks) once (inl e) =
        let none : (z : X) → In z ks → cond (c z) (cond (eq z y) v zero) zero ≡ zero = λ z j.
        elim (eq z y) as (λ b. eq z y ≡ b → cond (c z) (cond b v zero) zero ≡ zero) [
          | true ↦ λ t. absurd (once.0 (subst (λ (w : X). In w ks) (exact z y t ∙ e) j))
          | false ↦ λ t. elim (c z) as (λ b. cond b zero zero ≡ zero) [ true ↦ refl | false ↦ refl ]
        ] refl in
        let head : cond (c x) (cond (eq x y) v zero) zero ≡ cond (c y) v zero = subst (λ (w : X). cond (c w) (cond (eq w y) v zero) zero ≡ cond (c y) v zero) e (ap (λ b. cond (c y) (cond b v zero) zero) (laws.refl y)) in
        ap (plus (cond (c x) (cond (eq x y) v zero) zero)) (total_zero _ ks none) ∙ zero_right _ ∙ head
    total_one y v (x ∷ ks) once (inr i) =
        let head : cond (c x) (cond (eq x y) v zero) zero ≡ zero =
        elim (eq x y) as (λ b. eq x y ≡ b → cond (c x) (cond b v zero) zero ≡ zero) [
          | true ↦ λ t. absurd (once.0 (subst (λ (w : X). In w ks) (sym (exact x y t)) i))
          | false ↦ λ t. elim (c x) as (λ b. cond b zero zero ≡ zero) [ true ↦ refl | false ↦ refl ]
        ] refl in
        ap (λ a. plus a (total zero plus (λ x. cond (c x) (cond (eq x y) v zero) zero) ks)) head ∙ sum.zero_left _ ∙ total_one y v ks once.1 i

    both_parts : (b : Bool) (a d : V) → cond b (plus a d) zero ≡ plus (cond b a zero) (cond b d zero)
    both_parts true a d = refl
    both_parts false a d = sym (sum.zero_left zero)

    pub by_name : (ks : List X) → Once ks → (fed : List (X × V)) → ((p : X × V) → In p fed → In p.0 ks) → total zero plus (λ x. cond (c x) (total_where zero plus (λ p. eq x p.0) (λ p. p.1) fed) zero) ks ≡ total_where zero plus (λ p. c p.0) (λ p. p.1) fed
    by_name ks once [] h = total_zero _ ks (λ x i. elim (c x) as (λ b. cond b zero zero ≡ zero) [ true ↦ refl | false ↦ refl ])
    by_name ks once (p ∷ fed) h =
        total_same _ (λ x. plus (cond (c x) (cond (eq x p.0) p.1 zero) zero) (cond (c x) (total_where zero plus (λ q. eq x q.0) (λ q. q.1) fed) zero)) ks (λ x i. both_parts (c x) _ _)
        ∙ total_plus (λ x. cond (c x) (cond (eq x p.0) p.1 zero) zero) (λ x. cond (c x) (total_where zero plus (λ q. eq x q.0) (λ q. q.1) fed) zero) ks
        ∙ ap (λ a. plus a (total zero plus (λ x. cond (c x) (total_where zero plus (λ q. eq x q.0) (λ q. q.1) fed) zero) ks)) (total_one p.0 p.1 ks once (h p (inl refl)))
        ∙ ap (plus (cond (c p.0) p.1 zero)) (by_name ks once fed (λ q i. h q (inr i)))

  -- over a finite map made of entries whose keys differ
  module _ {K C : Type 0} {R : K → K → Ordering} (o : IsTotalOrder R) (anti : IsAntisymmetric R) (f : K × C → V) where
    total-put : (k : K) (v : C) (es : List (K × C)) → find R k es ≡ None → total zero plus f (put R k v es) ≡ plus (f (k, v)) (total zero plus f es)
    total-put k v [] e = refl
    total-put k v (x ∷ es) e =
        elim (R k x.0) as (λ r. cond (is_eq r) (Some x.1) (find R k es) ≡ None → total zero plus f (by_order r ((k, v) ∷ x ∷ es) ((x.0, v) ∷ es) (x ∷ put R k v es)) ≡ plus (f (k, v)) (plus (f x) (total zero plus f es))) [
          | Less ↦ λ _. refl
          | Equal ↦ λ some. cc
          | Greater ↦ λ none. ap (plus (f x)) (total-put k v es none) ∙ swap_first (f x) (f (k, v)) _
        ] e

    not_found : (k : K) (es : List (K × C)) → (In k (map (λ e. e.0) es) → ⊥) → find R k es ≡ None
    not_found k [] h = refl
    not_found k (x ∷ es) h =
        elim (R k x.0) as (λ r. R k x.0 ≡ r → cond (is_eq r) (Some x.1) (find R k es) ≡ None) [
          | Less ↦ λ _. not_found k es (λ i. h (inr i))
          | Equal ↦ λ t. absurd (h (inl (anti k x.0 t)))
          | Greater ↦ λ _. not_found k es (λ i. h (inr i))
        ] refl

    pub total-from_entries : (es : List (K × C)) → Once (map (λ e. e.0) es) → total zero plus f (entries (from_entries {R = R} es)) ≡ total zero plus f es
    total-from_entries [] once = ap (total zero plus f) (no_length (entries (finmap.empty {X = C} {R = R})) (sym (len-entries (finmap.empty {X = C} {R = R})) ∙ len-empty R C))
    total-from_entries (x ∷ es) once =
        ap (total zero plus f) (entries-insert o (from_entries es) x.0 x.1)
        ∙ total-put x.0 x.1 (entries (from_entries {R = R} es)) (sym (get-entries (from_entries {R = R} es) x.0) ∙ get-from_entries o es x.0 ∙ not_found x.0 es once.0)
        ∙ ap (plus (f (x.0, x.1))) (total-from_entries es once.1)
