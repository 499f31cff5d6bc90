use Rattle.std.proofs.Common.{◌≡◌, sym, subst, rules, true, false, Bool, not, refl, None, position}
use Rattle.attr_kit.specs.Attributes.{has_text, AreAttributes}
use Rattle.attr_kit.proofs.Places.{nowhere}
use Rattle.attr_kit.proofs.Putting.{are_attributes}
use Rattle.attr_kit.proofs.attr_set.AttrSet.from_pairs.Goals as goal

not_not : (b : Bool) → not b ≡ false → b ≡ true
not_not true e = refl
not_not false e = sym e

pub from_attributes-requires : goal.from_attributes-requires
from_attributes-requires c =
    let none : position (λ p. not (has_text p.0)) c.args.pairs.items ≡ None = search (rules, c.empty_key_at.ensures, c.in_default.not-Some) in
    let named = nowhere (λ p. not (has_text p.0)) (λ p. has_text p.0) (λ p. not_not (has_text p.0)) c.args.pairs.items none in
    subst AreAttributes (sym c.in_ok-in_order.ensures.value) (are_attributes c.args.pairs.items named)
