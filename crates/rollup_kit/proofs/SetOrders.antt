-- The order of attribute sets is total, and tells all sets apart.
use Rattle.std.proofs.Common.{◌≡◌, Bool, cond, List, Option, sym, ◌∙◌, ap}
use Rattle.std.specs.Map.{lookup}
use Rattle.std.specs.Ordering.{eq_by_cmp, is_eq}
use Rattle.std.specs.Cmp.{IsTotalOrder}
use Rattle.std.specs.FinMap.{IsAntisymmetric}
use Rattle.attr_kit.specs.Exact.{exact_lists, exact_pairs, exact_texts, exact_values}
use Rattle.attr_kit.specs.contracts.attr_set.AttrSetOrd.TheImpl.Laws as set_laws
use Rattle.attr_kit.specs.contracts.attr_set.AttrSetPartialEq.TheImpl as equal
use Rattle.rollup_kit.specs.Asks.{Attributes, attributes_cmp}

pub sets_total : IsTotalOrder attributes_cmp
sets_total = set_laws.total-law

pub sets_exact : IsAntisymmetric attributes_cmp
sets_exact x y e = exact_lists (exact_pairs exact_texts exact_values) x y (set_laws.matches_eq-law x y ∙ ap is_eq e)

-- sets are equal where they tie
abbrev pub set_eq : Attributes → Attributes → Bool
set_eq = (equal.ghosts).eq

pub ties : (x y : Attributes) → set_eq x y ≡ eq_by_cmp attributes_cmp x y
ties x y = set_laws.matches_eq-law x y

module _ {V : Type 0} where
  -- so a look-up by equality is one by order
  pub by_order : (rows : List (Attributes × V)) (q : Attributes) → lookup (set_eq q) rows ≡ lookup (eq_by_cmp attributes_cmp q) rows
  by_order rows q = λ i. lookup (λ k. ties q k i) rows

  -- and what is changed at one set by equality is so by order
  pub changed_by_order : (old new : List (Attributes × V)) (key : Attributes) (w : Option V) → ((q : Attributes) → lookup (set_eq q) new ≡ cond (set_eq key q) w (lookup (set_eq q) old))
      → (q : Attributes) → lookup (eq_by_cmp attributes_cmp q) new ≡ cond (eq_by_cmp attributes_cmp key q) w (lookup (eq_by_cmp attributes_cmp q) old)
  changed_by_order old new key w changed q = sym (by_order new q) ∙ changed q ∙ (λ i. cond (ties key q i) w (by_order old q i))
