-- What is found under a key, and the pairs that a set has.
use Rattle.std.proofs.Common.{◌≡◌, ◌↔◌, ℕ, suc, List, [], ◌∷◌, Bool, true, false, cond, IsTrue, Contains, Some, None, ap, sym, ◌∙◌, refl, subst, arith, true≢false}
use lib.Dec.{T}
use Rattle.std.specs.Cmp.{IsTotalOrder, Equal-is, tied_itself}
use Rattle.std.specs.FinMap.Entries.{find, is_sorted}
use Rattle.std.specs.Option.{unwrap_or}
use Rattle.std.specs.Ordering.{eq_by_cmp}
use Rattle.std.specs.declared.cmp.Ordering.{Ordering}
use Rattle.std.specs.declared.cmp.Ordering.TheVariants.{Equal}
use Rattle.attr_kit.specs.Attributes.{AreAttributes}
use Rattle.attr_kit.specs.OrderLaws.{text_total, text_apart, value_decides}
use Rattle.attr_kit.specs.Orders.{text_cmp}
use Rattle.attr_kit.specs.Putting.{value_of}
use Rattle.attr_kit.specs.contracts.attr_value.AttrValuePartialEq.TheImpl as values
use Rattle.attr_kit.specs.declared.attr_value.AttrValue.{AttrValue}
use Rattle.attr_kit.proofs.Searching.{find_here}

held : {A : Type 0} (x y : A) → Some x ≡ Some y → x ≡ y
held x y e = ap (λ o. unwrap_or o x) e

module _ {K X : Type 0} (R : K → K → Ordering) (o : IsTotalOrder R) (same : (x y : K) → R x y ≡ Equal → x ≡ y) where
  -- a pair is there whose value is found
  pub found_there : (q : K) (v : X) (ps : List (K × X)) → find R q ps ≡ Some v → Contains ps (q, v)
  found_there q v [] e = cc
  found_there q v (p ∷ ps) e =
      elim (eq_by_cmp R q p.0) as (λ b. eq_by_cmp R q p.0 ≡ b → cond b (Some p.1) (find R q ps) ≡ Some v → Contains (p ∷ ps) (q, v)) [
        | true ↦ λ t h. (0, omega arith, λ i. (sym (same q p.0 ((Equal-is (R q p.0)).0 t)) i, held p.1 v h i))
        | false ↦ λ _ h.
            let rest = found_there q v ps h in
            (suc rest.0, omega (arith, rest.1), rest.2)
      ] refl e

  -- the value of a pair that is there is found
  pub there_found : (q : K) (v : X) (ps : List (K × X)) → is_sorted R ps ≡ true → Contains ps (q, v) → find R q ps ≡ Some v
  there_found q v ps s h =
      find_here R o same q ps h.0 (q, v) (subst T (sym s) tt) h.1 (ap (λ p. R p.0 q) h.2 ∙ tied_itself o q) ∙ ap (λ p. Some p.1) h.2

-- the value under a key is that of the pair which the set has there
pub value_there : (key : List ℕ) (value : AttrValue) (ps : List (List ℕ × AttrValue)) → AreAttributes ps → (value_of key ps ≡ Some value) ↔ Contains ps (key, value)
value_there key value ps a = (found_there text_cmp text_total text_apart key value ps, there_found text_cmp text_total text_apart key value ps a.rising)

pub has_held : (key : List ℕ) (value other : AttrValue) (ps : List (List ℕ × AttrValue)) (r : Bool) → AreAttributes ps → Some other ≡ value_of key ps → r ≡ (values.ghosts).eq other value → IsTrue r ↔ Contains ps (key, value)
has_held key value other ps r a e t = (
  λ h. (value_there key value ps a).0 (sym e ∙ ap Some ((value_decides other value).0 (sym t ∙ h))),
  λ h. t ∙ (value_decides other value).1 (held other value (e ∙ (value_there key value ps a).1 h)),
)

pub has_none : (key : List ℕ) (value : AttrValue) (ps : List (List ℕ × AttrValue)) → AreAttributes ps → None ≡ value_of key ps → IsTrue false ↔ Contains ps (key, value)
has_none key value ps a e = (λ h. absurd (true≢false (sym h)), λ h. absent (e ∙ (value_there key value ps a).1 h))
  where
    absent : {A : Type 0} {x : A} {P : Type 0} → None ≡ Some x → P
    absent e = cc
