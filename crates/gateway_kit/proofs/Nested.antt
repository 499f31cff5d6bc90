-- A map kept in parts: its entries are in order, and what is found in them is found in the part of the key.
use Rattle.std.proofs.Common.{◌≡◌, Bool, true, false, cond, List, [], ◌∷◌, ◌++◌, map, Option, Some, None, refl, sym, ap, subst, ◌∙◌}
use Rattle.std.specs.Prelude.{T}
use Rattle.std.specs.Option.{option_or}
use Rattle.std.specs.declared.cmp.Ordering.{Ordering}
use Rattle.std.specs.declared.cmp.Ordering.TheVariants.{Less, Equal, Greater}
use Rattle.std.specs.Ordering.{eq_by_cmp, is_eq, is_lt, ordering_then}
use Rattle.std.specs.Cmp.{IsTotalOrder, Equal-is, tied_itself}
use Rattle.std.specs.FinMap.{FinMap, entries, entries_sorted}
use Rattle.std.specs.FinMap.Entries.{find, is_sorted, below_all}
use Rattle.gateway_kit.specs.Incarnations.{flatten, entries_at}
use Rattle.gateway_kit.proofs.Entries.{both, first, second, less, below_tied, find_below}

pub is_eq-then : (r s : Ordering) → is_eq (ordering_then r s) ≡ cond (is_eq r) (is_eq s) false
is_eq-then Less s = refl
is_eq-then Equal s = refl
is_eq-then Greater s = refl

pick : {V : Type 0} (t u : Bool) (x : V) (found rest : Option V) → cond (cond t u false) (Some x) (cond t (option_or found rest) rest) ≡ cond t (option_or (cond u (Some x) found) rest) rest
pick true true x found rest = refl
pick true false x found rest = refl
pick false u x found rest = refl

or_none : {V : Type 0} (found rest : Option V) → rest ≡ None → option_or found rest ≡ found
or_none None rest e = e
or_none (Some x) rest e = refl

same_either : {V : Type 0} (t : Bool) (x : Option V) → x ≡ cond t x x
same_either true x = refl
same_either false x = refl

module _ {A B K : Type 0} (V : Type 0) (R : A → A → Ordering) (S : B → B → Ordering) (Q : K → K → Ordering) (key : A → B → K) (compares : (a c : A) (b d : B) → Q (key a b) (key c d) ≡ ordering_then (R a c) (S b d)) where
  -- what is under b in a part, if there is one
  abbrev pub in_part : B → Option (FinMap S V) → Option V
  in_part b part = find S b (entries_at part)

  find_part : (a c : A) (b : B) (es : List (B × V)) (rest : List (K × V)) → find Q (key a b) (map (λ e. (key c e.0, e.1)) es ++ rest) ≡ cond (eq_by_cmp R a c) (option_or (find S b es) (find Q (key a b) rest)) (find Q (key a b) rest)
  find_part a c b [] rest = same_either (eq_by_cmp R a c) (find Q (key a b) rest)
  find_part a c b (e ∷ es) rest =
      let tied : eq_by_cmp Q (key a b) (key c e.0) ≡ cond (eq_by_cmp R a c) (eq_by_cmp S b e.0) false = ap is_eq (compares a c b e.0) ∙ is_eq-then (R a c) (S b e.0) in
      (λ i. cond (tied i) (Some e.1) (find_part a c b es rest i)) ∙ pick (eq_by_cmp R a c) (eq_by_cmp S b e.0) e.1 (find S b es) (find Q (key a b) rest)

  pub find-flatten : IsTotalOrder R → (a : A) (b : B) (parts : List (A × FinMap S V)) → T (is_sorted R parts) → find Q (key a b) (flatten key parts) ≡ in_part b (find R a parts)
  find-flatten o a b [] h = refl
  find-flatten o a b (part ∷ parts) h =
      let rest = find-flatten o a b parts (second _ _ h) in
      let later = find Q (key a b) (flatten key parts) in
      find_part a part.0 b (entries part.1) (flatten key parts)
      ∙ elim (eq_by_cmp R a part.0) as (λ t. eq_by_cmp R a part.0 ≡ t → cond t (option_or (find S b (entries part.1)) later) later ≡ in_part b (cond t (Some part.1) (find R a parts))) [
        | true ↦ λ t. or_none (find S b (entries part.1)) later (rest ∙ ap (in_part b) (find_below o a parts (below_tied o a part.0 parts ((Equal-is (R a part.0)).0 t) (first _ _ h))))
        | false ↦ λ t. rest
      ] refl

  below_part : (c : A) (d : B) (x : A) (es : List (B × V)) (rest : List (K × V)) → R c x ≡ Less → T (below_all Q (key c d) rest) → T (below_all Q (key c d) (map (λ e. (key x e.0, e.1)) es ++ rest))
  below_part c d x [] rest p h = h
  below_part c d x (e ∷ es) rest p h = both _ _ (subst (λ r. T (is_lt r)) (sym (compares c x d e.0 ∙ ap (λ r. ordering_then r (S d e.0)) p)) tt) (below_part c d x es rest p h)

  below_flatten : (c : A) (d : B) (parts : List (A × FinMap S V)) → T (below_all R c parts) → T (below_all Q (key c d) (flatten key parts))
  below_flatten c d [] h = tt
  below_flatten c d (part ∷ parts) h = below_part c d part.0 (entries part.1) (flatten key parts) (less _ (first _ _ h)) (below_flatten c d parts (second _ _ h))

  module _ (o : IsTotalOrder R) where
    inside : (c : A) (d e : B) → T (is_lt (S d e)) → T (is_lt (Q (key c d) (key c e)))
    inside c d e p = subst (λ r. T (is_lt r)) (sym (compares c c d e ∙ ap (λ r. ordering_then r (S d e)) (tied_itself o c))) p

    below_own : (c : A) (d : B) (es : List (B × V)) (rest : List (K × V)) → T (below_all S d es) → T (below_all Q (key c d) rest) → T (below_all Q (key c d) (map (λ e. (key c e.0, e.1)) es ++ rest))
    below_own c d [] rest g h = h
    below_own c d (e ∷ es) rest g h = both _ _ (inside c d e.0 (first _ _ g)) (below_own c d es rest (second _ _ g) h)

    sorted_part : (c : A) (es : List (B × V)) (rest : List (K × V)) → T (is_sorted S es) → ((d : B) → T (below_all Q (key c d) rest)) → T (is_sorted Q rest) → T (is_sorted Q (map (λ e. (key c e.0, e.1)) es ++ rest))
    sorted_part c [] rest g below h = h
    sorted_part c (e ∷ es) rest g below h = both _ _ (below_own c e.0 es rest (first _ _ g) (below e.0)) (sorted_part c es rest (second _ _ g) below h)

    pub sorted_flatten : (parts : List (A × FinMap S V)) → T (is_sorted R parts) → T (is_sorted Q (flatten key parts))
    sorted_flatten [] g = tt
    sorted_flatten (part ∷ parts) g = sorted_part part.0 (entries part.1) (flatten key parts) (entries_sorted part.1) (λ d. below_flatten part.0 d parts (first _ _ g)) (sorted_flatten parts (second _ _ g))
