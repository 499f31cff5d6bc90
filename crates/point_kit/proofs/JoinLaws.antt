-- Joining cells is commutative, associative and idempotent, and gives the least upper bound.
use Rattle.std.proofs.Common.{◌≡◌, Bool, true, false, if◌then◌else◌, Some, None, refl, sym, ap, subst, ◌∙◌, arith}
use Rattle.std.proofs.lemmas.Bool.Decides.{nat_tests}
use Rattle.std.specs.Cmp.{IsEquivalence}
use Rattle.point_kit.specs.declared.cell.Held.{Held}
use Rattle.point_kit.specs.declared.cell.Held.TheVariants.{One, Conflict}
use Rattle.point_kit.specs.Join.{join_held, join_cells, join_options, IsCommutative, IsAssociative, IsIdempotent, JoinsAbove, JoinsLeast}
use Rattle.attr_kit.specs.Exact.{IsExact}

module _ {A : Type 0} (join : A → A → A) where
  pub joins_above : IsCommutative join → IsAssociative join → IsIdempotent join → JoinsAbove join
  joins_above commutes associates repeats a b =
      let first : (x y : A) → join x (join x y) ≡ join x y = λ x y. sym (associates x x y) ∙ ap (λ z. join z y) (repeats x) in
      (first a b, ap (join b) (commutes a b) ∙ first b a ∙ commutes b a)

  pub joins_least : IsAssociative join → JoinsLeast join
  joins_least associates a b c below_a below_b = associates a b c ∙ ap (join a) below_b ∙ below_a

module _ {V : Type 0} (join : V → V → V) where
  pub options_commute : IsCommutative join → IsCommutative (join_options join)
  options_commute c None None = refl
  options_commute c None (Some b) = refl
  options_commute c (Some a) None = refl
  options_commute c (Some a) (Some b) = ap Some (c a b)

  pub options_associate : IsAssociative join → IsAssociative (join_options join)
  options_associate h None b c = refl
  options_associate h (Some a) None c = refl
  options_associate h (Some a) (Some b) None = refl
  options_associate h (Some a) (Some b) (Some c) = ap Some (h a b c)

  pub options_idempotent : IsIdempotent join → IsIdempotent (join_options join)
  options_idempotent h None = refl
  options_idempotent h (Some a) = ap Some (h a)

module _ {P : Type 0} (eq : P → P → Bool) (laws : IsEquivalence eq) (exact : IsExact eq) where
  held_comm : (a b : Held P) → join_held eq a b ≡ join_held eq b a
  held_comm (One p) (One q) =
      elim (eq p q) as (λ t. eq p q ≡ t → (if t then One p else Conflict) ≡ (if eq q p then One q else Conflict)) [
        | true ↦ λ is. rw (sym (laws.symm p q) ∙ is) (ap One (exact p q is))
        | false ↦ λ is. rw (sym (laws.symm p q) ∙ is) refl
      ] refl
  held_comm (One p) Conflict = refl
  held_comm Conflict (One q) = refl
  held_comm Conflict Conflict = refl

  held_idem : (a : Held P) → join_held eq a a ≡ a
  held_idem (One p) = rw (laws.refl p) refl
  held_idem Conflict = refl

  -- one that differs from the second differs from what is joined of it and a third
  apart : (p q r : P) → eq p q ≡ false → join_held eq (One p) (join_held eq (One q) (One r)) ≡ Conflict
  apart p q r differ = elim (eq q r) as (λ t. join_held eq (One p) (if t then One q else Conflict) ≡ Conflict) [ true ↦ rw differ refl | false ↦ refl ]

  held_assoc : (a b c : Held P) → join_held eq (join_held eq a b) c ≡ join_held eq a (join_held eq b c)
  held_assoc (One p) (One q) (One r) =
      elim (eq p q) as (λ t. eq p q ≡ t → join_held eq (if t then One p else Conflict) (One r) ≡ join_held eq (One p) (join_held eq (One q) (One r))) [
        | true ↦ λ is. subst (λ (x : P). join_held eq (One p) (One r) ≡ join_held eq (One p) (join_held eq (One x) (One r))) (exact p q is) (same p r)
        | false ↦ λ is. sym (apart p q r is)
      ] refl
    where
      same : (p r : P) → join_held eq (One p) (One r) ≡ join_held eq (One p) (join_held eq (One p) (One r))
      same p r = elim (eq p r) as (λ t. (if t then One p else Conflict) ≡ join_held eq (One p) (if t then One p else Conflict)) [ true ↦ rw (laws.refl p) refl | false ↦ refl ]
  held_assoc (One p) (One q) Conflict = elim (eq p q) as (λ t. join_held eq (if t then One p else Conflict) Conflict ≡ Conflict) [ true ↦ refl | false ↦ refl ]
  held_assoc (One p) Conflict c = refl
  held_assoc Conflict b c = refl

  pub cells_commute : IsCommutative (join_cells eq)
  cells_commute a b = grind (arith, nat_tests, held_comm)

  pub cells_idempotent : IsIdempotent (join_cells eq)
  cells_idempotent a = grind (arith, nat_tests, held_idem)

  pub cells_associate : IsAssociative (join_cells eq)
  cells_associate a b c = grind (arith, nat_tests, held_assoc)

  pub cells_above : JoinsAbove (join_cells eq)
  cells_above = joins_above (join_cells eq) cells_commute cells_associate cells_idempotent

  pub cells_least : JoinsLeast (join_cells eq)
  cells_least = joins_least (join_cells eq) cells_associate
