-- Entries in the order of their keys: what is found in them, in two lists woven, and after a change at a place.
use Rattle.std.proofs.Common.{◌≡◌, ℕ, zero, suc, Bool, true, false, ◌&&◌, cond, List, [], ◌∷◌, ◌++◌, map, take, Option, Some, None, refl, sym, ap, subst, ◌∙◌, true≢false, is_some, length}
use Rattle.std.specs.Prelude.{T, slice_get}
use Rattle.std.specs.Option.{option_or, option_map, unwrap_or}
use Rattle.std.specs.declared.cmp.Ordering.{Ordering}
use Rattle.std.specs.declared.cmp.Ordering.TheVariants.{Less, Equal, Greater}
use Rattle.std.specs.Ordering.{eq_by_cmp, is_eq, is_lt, ordering_reverse}
use Rattle.std.specs.Cmp.{IsTotalOrder, Equal-is, alike_right, tied_itself}
use Rattle.std.specs.FinMap.{from_sorted, empty, empty_of_len, len-entries, entries-from_sorted}
use Rattle.std.specs.FinMap.Entries.{by_order, find, is_sorted, below_all}
use Rattle.gateway_kit.specs.Amending.{with_change, with_changes}
use Rattle.gateway_kit.specs.Weave.{weave}

pub both : (a b : Bool) → T a → T b → T (a && b)
both true b p q = q
both false b p q = p

pub first : (a b : Bool) → T (a && b) → T a
first true b p = tt
first false b p = p

pub second : (a b : Bool) → T (a && b) → T b
second true b p = p
second false b p = absurd p

pub less : (r : Ordering) → T (is_lt r) → r ≡ Less
less Less p = refl
less Equal p = absurd p
less Greater p = absurd p

pub as_true : (b : Bool) → T b → b ≡ true
as_true true h = refl
as_true false h = absurd h

pub as_T : {b : Bool} → b ≡ true → T b
as_T e = subst T (sym e) tt

pub not_None : {A : Type 0} {x : A} → None ≡ Some x → ⊥
not_None e = true≢false (sym (ap is_some e))

pub same_Some : {A : Type 0} {x y : A} → Some x ≡ Some y → x ≡ y
same_Some {A} {x} {y} e = ap (λ o. unwrap_or o x) e

-- the order of entries is that of their keys
abbrev pub on_keys : {K V : Type 0} → (K → K → Ordering) → K × V → K × V → Ordering
on_keys R x y = R x.0 y.0

pub map-weave : {A B : Type 0} (R : A → A → Ordering) (S : B → B → Ordering) (f : A → B) → ((x y : A) → R x y ≡ S (f x) (f y)) → (xs ys : List A) → map f (weave R xs ys) ≡ weave S (map f xs) (map f ys)
map-weave R S f same [] ys = refl
map-weave R S f same (x ∷ xs) [] = refl
map-weave R S f same (x ∷ xs) (y ∷ ys) =
    elim (R x y) as (λ r. R x y ≡ r → map f (by_order r (x ∷ weave R xs (y ∷ ys)) (x ∷ weave R xs ys) (y ∷ weave R (x ∷ xs) ys)) ≡ by_order (S (f x) (f y)) (f x ∷ weave S (map f xs) (f y ∷ map f ys)) (f x ∷ weave S (map f xs) (map f ys)) (f y ∷ weave S (f x ∷ map f xs) (map f ys))) [
      | Less ↦ λ p. ap (λ l. f x ∷ l) (map-weave R S f same xs (y ∷ ys)) ∙ ap (λ r. by_order r (f x ∷ weave S (map f xs) (f y ∷ map f ys)) (f x ∷ weave S (map f xs) (map f ys)) (f y ∷ weave S (f x ∷ map f xs) (map f ys))) (sym p ∙ same x y)
      | Equal ↦ λ p. ap (λ l. f x ∷ l) (map-weave R S f same xs ys) ∙ ap (λ r. by_order r (f x ∷ weave S (map f xs) (f y ∷ map f ys)) (f x ∷ weave S (map f xs) (map f ys)) (f y ∷ weave S (f x ∷ map f xs) (map f ys))) (sym p ∙ same x y)
      | Greater ↦ λ p. ap (λ l. f y ∷ l) (map-weave R S f same (x ∷ xs) ys) ∙ ap (λ r. by_order r (f x ∷ weave S (map f xs) (f y ∷ map f ys)) (f x ∷ weave S (map f xs) (map f ys)) (f y ∷ weave S (f x ∷ map f xs) (map f ys))) (sym p ∙ same x y)
    ] refl

module _ {K : Type 0} {R : K → K → Ordering} (o : IsTotalOrder R) where
  pub turned_less : (x y : K) → R x y ≡ Greater → R y x ≡ Less
  turned_less x y p = o.antisymm y x ∙ ap ordering_reverse p

  pub turned_greater : (x y : K) → R x y ≡ Less → R y x ≡ Greater
  turned_greater x y p = o.antisymm y x ∙ ap ordering_reverse p

  pub is_less : (x y : K) → R x y ≡ Less → T (is_lt (R x y))
  is_less x y p = subst (λ r. T (is_lt r)) (sym p) tt

  pub below_less : {V : Type 0} (x y : K) (es : List (K × V)) → R x y ≡ Less → T (below_all R y es) → T (below_all R x es)
  below_less x y [] p h = tt
  below_less x y (e ∷ es) p h = both _ _ (is_less x e.0 (o.trans x y e.0 p (less _ (first _ _ h)))) (below_less x y es p (second _ _ h))

  pub below_tied : {V : Type 0} (x y : K) (es : List (K × V)) → R x y ≡ Equal → T (below_all R y es) → T (below_all R x es)
  below_tied x y [] p h = tt
  below_tied x y (e ∷ es) p h = both _ _ (subst (λ r. T (is_lt r)) (sym (o.congr x y e.0 p)) (first _ _ h)) (below_tied x y es p (second _ _ h))

  pub find_below : {V : Type 0} (q : K) (es : List (K × V)) → T (below_all R q es) → find R q es ≡ None
  find_below q [] h = refl
  find_below q (e ∷ es) h = ap (λ r. cond (is_eq r) (Some e.1) (find R q es)) (less _ (first _ _ h)) ∙ find_below q es (second _ _ h)

  pub apart_less : (x y : K) → R x y ≡ Less → eq_by_cmp R y x ≡ false
  apart_less x y p = ap is_eq (turned_greater x y p)

  pub itself : (x : K) → eq_by_cmp R x x ≡ true
  itself x = ap is_eq (tied_itself o x)

  module _ {V : Type 0} where
    below_weave : (x : K) (es fs : List (K × V)) → T (below_all R x es) → T (below_all R x fs) → T (below_all R x (weave (on_keys R) es fs))
    below_weave x [] fs g h = h
    below_weave x (e ∷ es) [] g h = g
    below_weave x (e ∷ es) (f ∷ fs) g h =
        elim (R e.0 f.0) as (λ r. T (below_all R x (by_order r (e ∷ weave (on_keys R) es (f ∷ fs)) (e ∷ weave (on_keys R) es fs) (f ∷ weave (on_keys R) (e ∷ es) fs)))) [
          | Less ↦ both _ _ (first _ _ g) (below_weave x es (f ∷ fs) (second _ _ g) h)
          | Equal ↦ both _ _ (first _ _ g) (below_weave x es fs (second _ _ g) (second _ _ h))
          | Greater ↦ both _ _ (first _ _ h) (below_weave x (e ∷ es) fs g (second _ _ h))
        ]

    pub sorted_weave : (es fs : List (K × V)) → T (is_sorted R es) → T (is_sorted R fs) → T (is_sorted R (weave (on_keys R) es fs))
    sorted_weave [] fs g h = h
    sorted_weave (e ∷ es) [] g h = g
    sorted_weave (e ∷ es) (f ∷ fs) g h =
        elim (R e.0 f.0) as (λ r. R e.0 f.0 ≡ r → T (is_sorted R (by_order r (e ∷ weave (on_keys R) es (f ∷ fs)) (e ∷ weave (on_keys R) es fs) (f ∷ weave (on_keys R) (e ∷ es) fs)))) [
          | Less ↦ λ p. both _ _ (below_weave e.0 es (f ∷ fs) (first _ _ g) (both _ _ (is_less e.0 f.0 p) (below_less e.0 f.0 fs p (first _ _ h)))) (sorted_weave es (f ∷ fs) (second _ _ g) h)
          | Equal ↦ λ p. both _ _ (below_weave e.0 es fs (first _ _ g) (below_tied e.0 f.0 fs p (first _ _ h))) (sorted_weave es fs (second _ _ g) (second _ _ h))
          | Greater ↦ λ p.
              let q = turned_less e.0 f.0 p in
              both _ _ (below_weave f.0 (e ∷ es) fs (both _ _ (is_less f.0 e.0 q) (below_less f.0 e.0 es q (first _ _ g))) (first _ _ h)) (sorted_weave (e ∷ es) fs g (second _ _ h))
        ] refl

    -- a key that ties with the least of one list, below all of another, is not in the other
    not_in : (q x : K) (fs : List (K × V)) → eq_by_cmp R q x ≡ true → T (below_all R x fs) → find R q fs ≡ None
    not_in q x fs t h = find_below q fs (below_tied q x fs ((Equal-is (R q x)).0 t) h)

    or_none : (a : Option V) → a ≡ option_or a None
    or_none None = refl
    or_none (Some a) = refl

    pub find-weave : (q : K) (es fs : List (K × V)) → T (is_sorted R es) → T (is_sorted R fs) → find R q (weave (on_keys R) es fs) ≡ option_or (find R q es) (find R q fs)
    find-weave q [] fs g h = refl
    find-weave q (e ∷ es) [] g h = or_none (find R q (e ∷ es))
    find-weave q (e ∷ es) (f ∷ fs) g h =
        elim (R e.0 f.0) as (λ r. R e.0 f.0 ≡ r → find R q (by_order r (e ∷ weave (on_keys R) es (f ∷ fs)) (e ∷ weave (on_keys R) es fs) (f ∷ weave (on_keys R) (e ∷ es) fs)) ≡ option_or (find R q (e ∷ es)) (find R q (f ∷ fs))) [
          | Less ↦ λ p.
              let rest = find-weave q es (f ∷ fs) (second _ _ g) h in
              elim (eq_by_cmp R q e.0) as (λ b. cond b (Some e.1) (find R q (weave (on_keys R) es (f ∷ fs))) ≡ option_or (cond b (Some e.1) (find R q es)) (find R q (f ∷ fs))) [
                | true ↦ refl
                | false ↦ rest
              ]
          | Equal ↦ λ p.
              let rest = find-weave q es fs (second _ _ g) (second _ _ h) in
              let alike : eq_by_cmp R q f.0 ≡ eq_by_cmp R q e.0 = ap is_eq (sym (alike_right o e.0 f.0 q p)) in
              subst (λ (x : Bool). cond (eq_by_cmp R q e.0) (Some e.1) (find R q (weave (on_keys R) es fs)) ≡ option_or (cond (eq_by_cmp R q e.0) (Some e.1) (find R q es)) (cond x (Some f.1) (find R q fs))) (sym alike)
              (elim (eq_by_cmp R q e.0) as (λ b. cond b (Some e.1) (find R q (weave (on_keys R) es fs)) ≡ option_or (cond b (Some e.1) (find R q es)) (cond b (Some f.1) (find R q fs))) [
                | true ↦ refl
                | false ↦ rest
              ])
          | Greater ↦ λ p.
              let rest = find-weave q (e ∷ es) fs g (second _ _ h) in
              let turned = turned_less e.0 f.0 p in
              elim (eq_by_cmp R q f.0) as (λ b. eq_by_cmp R q f.0 ≡ b → cond b (Some f.1) (find R q (weave (on_keys R) (e ∷ es) fs)) ≡ option_or (find R q (e ∷ es)) (cond b (Some f.1) (find R q fs))) [
                | true ↦ λ t. sym (ap (λ a. option_or a (Some f.1)) (not_in q f.0 (e ∷ es) t (both _ _ (is_less f.0 e.0 turned) (below_less f.0 e.0 es turned (first _ _ g)))))
                | false ↦ λ t. rest
              ] refl
        ] refl

    -- the key at a place of a list that stands above x is above x
    pub above_at : (x : K) (es : List (K × V)) (i : ℕ) (e : K × V) → T (below_all R x es) → slice_get es i ≡ Some e → R x e.0 ≡ Less
    above_at x [] i e h is = absurd (not_None is)
    above_at x (f ∷ fs) zero e h is = ap (λ (p : K × V). R x p.0) (sym (same_Some is)) ∙ less _ (first _ _ h)
    above_at x (f ∷ fs) (suc i) e h is = above_at x fs i e (second _ _ h) is

    pub key_above : (x k : K) (es : List (K × V)) (i : ℕ) → T (below_all R x es) → slice_get (map (λ e. e.0) es) i ≡ Some k → R x k ≡ Less
    key_above x k [] i h is = absurd (not_None is)
    key_above x k (e ∷ es) zero h is = ap (R x) (sym (same_Some is)) ∙ less _ (first _ _ h)
    key_above x k (e ∷ es) (suc i) h is = key_above x k es i (second _ _ h) is

    -- what stands at a place is found under its key
    pub find_at : (es : List (K × V)) (i : ℕ) (e : K × V) → T (is_sorted R es) → slice_get es i ≡ Some e → find R e.0 es ≡ Some e.1
    find_at [] i e h is = absurd (not_None is)
    find_at (f ∷ fs) zero e h is = ap (λ (p : K × V). find R p.0 (f ∷ fs)) (sym (same_Some is)) ∙ ap (λ b. cond b (Some f.1) (find R f.0 fs)) (itself f.0) ∙ ap (λ (p : K × V). Some p.1) (same_Some is)
    find_at (f ∷ fs) (suc i) e h is = ap (λ b. cond b (Some f.1) (find R e.0 fs)) (apart_less f.0 e.0 (above_at f.0 fs i e (first _ _ h) is)) ∙ find_at fs i e (second _ _ h) is

    -- and not before it
    pub none_before : (es : List (K × V)) (i : ℕ) (e : K × V) → T (is_sorted R es) → slice_get es i ≡ Some e → find R e.0 (take i es) ≡ None
    none_before [] zero e h is = refl
    none_before [] (suc i) e h is = refl
    none_before (f ∷ fs) zero e h is = refl
    none_before (f ∷ fs) (suc i) e h is = ap (λ b. cond b (Some f.1) (find R e.0 (take i fs))) (apart_less f.0 e.0 (above_at f.0 fs i e (first _ _ h) is)) ∙ none_before fs i e (second _ _ h) is

  module _ {V C : Type 0} (made : V → C → V) where
    pub below_with_change : (x : K) (es : List (K × V)) (i : ℕ) (c : C) → below_all R x (with_change made es i c) ≡ below_all R x es
    below_with_change x [] i c = refl
    below_with_change x (e ∷ es) zero c = refl
    below_with_change x (e ∷ es) (suc i) c = ap (λ b. is_lt (R x e.0) && b) (below_with_change x es i c)

    pub is_sorted-with_change : (es : List (K × V)) (i : ℕ) (c : C) → is_sorted R (with_change made es i c) ≡ is_sorted R es
    is_sorted-with_change [] i c = refl
    is_sorted-with_change (e ∷ es) zero c = refl
    is_sorted-with_change (e ∷ es) (suc i) c = λ j. below_with_change e.0 es i c j && is_sorted-with_change es i c j

    pub is_sorted-with_changes : (es : List (K × V)) (us : List (ℕ × C)) → is_sorted R (with_changes made es us) ≡ is_sorted R es
    is_sorted-with_changes es [] = refl
    is_sorted-with_changes es (u ∷ us) = is_sorted-with_changes (with_change made es u.0 u.1) us ∙ is_sorted-with_change es u.0 u.1

    -- the keys stay where they are
    pub keys-with_change : (es : List (K × V)) (i : ℕ) (c : C) → map (λ e. e.0) (with_change made es i c) ≡ map (λ e. e.0) es
    keys-with_change [] i c = refl
    keys-with_change (e ∷ es) zero c = refl
    keys-with_change (e ∷ es) (suc i) c = ap (λ l. e.0 ∷ l) (keys-with_change es i c)

    pub keys-with_changes : (es : List (K × V)) (us : List (ℕ × C)) → map (λ e. e.0) (with_changes made es us) ≡ map (λ e. e.0) es
    keys-with_changes es [] = refl
    keys-with_changes es (u ∷ us) = keys-with_changes (with_change made es u.0 u.1) us ∙ keys-with_change es u.0 u.1

    pub with_changes-push : (es : List (K × V)) (us : List (ℕ × C)) (i : ℕ) (c : C) → with_changes made es (us ++ (i, c) ∷ []) ≡ with_change made (with_changes made es us) i c
    with_changes-push es [] i c = refl
    with_changes-push es (u ∷ us) i c = with_changes-push (with_change made es u.0 u.1) us i c

    swapped : (a b : Bool) (x : Option V) (y z : Option V) → (a ≡ true → b ≡ false) → cond a x (cond b y z) ≡ cond b y (cond a x z)
    swapped true true x y z apart = absurd (true≢false (apart refl))
    swapped true false x y z apart = refl
    swapped false b x y z apart = refl

    -- after a change at the place of a key
    pub find-with_change : (q k : K) (es : List (K × V)) (i : ℕ) (c : C) → T (is_sorted R es) → slice_get (map (λ e. e.0) es) i ≡ Some k → find R q (with_change made es i c) ≡ cond (eq_by_cmp R q k) (option_map (λ v. made v c) (find R k es)) (find R q es)
    find-with_change q k [] i c h is = absurd (not_None is)
    find-with_change q k (e ∷ es) zero c h is =
        let same : e.0 ≡ k = same_Some is in
        subst (λ x. cond (eq_by_cmp R q e.0) (Some (made e.1 c)) (find R q es) ≡ cond (eq_by_cmp R q x) (option_map (λ v. made v c) (cond (eq_by_cmp R x e.0) (Some e.1) (find R x es))) (cond (eq_by_cmp R q e.0) (Some e.1) (find R q es))) same
        (ap (λ b. cond (eq_by_cmp R q e.0) (option_map (λ v. made v c) (cond b (Some e.1) (find R e.0 es))) (find R q es)) (sym (itself e.0))
        ∙ shadowed (eq_by_cmp R q e.0) (option_map (λ v. made v c) (cond (eq_by_cmp R e.0 e.0) (Some e.1) (find R e.0 es))) (Some e.1) (find R q es))
      where
        shadowed : (b : Bool) (x y z : Option V) → cond b x z ≡ cond b x (cond b y z)
        shadowed true x y z = refl
        shadowed false x y z = refl
    find-with_change q k (e ∷ es) (suc i) c h is =
        let above : R e.0 k ≡ Less = key_above e.0 k es i (first _ _ h) is in
        ap (cond (eq_by_cmp R q e.0) (Some e.1)) (find-with_change q k es i c (second _ _ h) is)
        ∙ swapped (eq_by_cmp R q e.0) (eq_by_cmp R q k) (Some e.1) (option_map (λ v. made v c) (find R k es)) (find R q es) (λ t. ap is_eq (o.congr q e.0 k ((Equal-is (R q e.0)).0 t) ∙ above))
        ∙ ap (λ b. cond (eq_by_cmp R q k) (option_map (λ v. made v c) (cond b (Some e.1) (find R k es))) (cond (eq_by_cmp R q e.0) (Some e.1) (find R q es))) (sym (apart_less e.0 k above))

pub from_sorted-nil : {K V : Type 0} {R : K → K → Ordering} → from_sorted {X = V} {R = R} [] ≡ empty
from_sorted-nil {K} {V} {R} = empty_of_len (from_sorted {X = V} {R = R} []) (len-entries (from_sorted {X = V} {R = R} []) ∙ ap length (entries-from_sorted R [] tt))
