-- The orders are total, and tell all values apart.
use Rattle.std.specs.Prelude.{◌≡◌, ℕ, List, Bool, true, false, refl}
use Rattle.std.proofs.Common.{ap, ◌∙◌, subst}
use Rattle.std.specs.Bool.{Decides}
use Rattle.std.specs.Cmp.{IsTotalOrder, IsEquivalence, IsPartialOrder, po, tied_itself, then_total, on_total, both_tied, bool_cmp_total, int_cmp_total}
use Rattle.std.specs.Cmp.Lexicographic.{slice_cmp, lists_total, lists_ties, nat_list_cmp_total, texts_ties}
use Rattle.std.specs.FinMap.{IsAntisymmetric, nat_cmp-IsAntisymmetric, int_cmp-IsAntisymmetric, slice_cmp-IsAntisymmetric}
use Rattle.std.specs.Ordering.{is_eq, eq_by_cmp, ordering_reverse, as_partial_cmp, bool_cmp}
use Rattle.std.specs.declared.cmp.Ordering.{Ordering}
use Rattle.std.specs.declared.cmp.Ordering.TheVariants.{Less, Equal, Greater}
use Rattle.attr_kit.specs.Exact.{IsExact, exact_values, exact_texts, exact_pairs, exact_lists}
use Rattle.attr_kit.specs.Orders.{text_cmp, value_cmp, pair_cmp, set_cmp}
use Rattle.attr_kit.specs.contracts.attr_value.AttrValueEq.TheImpl.Laws as value_eq_laws
use Rattle.attr_kit.specs.contracts.attr_value.AttrValuePartialEq.TheImpl as values
use Rattle.attr_kit.specs.contracts.pairs.PairsEq.TheImpl.Laws as pairs_eq_laws
use Rattle.attr_kit.specs.contracts.pairs.PairsPartialEq.TheImpl as pairs
use Rattle.attr_kit.specs.declared.attr_value.AttrValue.{AttrValue}
use Rattle.std.specs.contracts.prelude.BoolPartialEq.TheImpl as bools
use Rattle.attr_kit.specs.declared.attr_value.AttrValue.TheVariants.{Text, Truth, Whole}

-- two values of which neither is less are one
neither : {K : Type 0} {R : K → K → Ordering} → IsTotalOrder R → (x y : K) (r : Ordering) → R x y ≡ r → (R x y ≡ Less → ⊥) → (R y x ≡ Less → ⊥) → R x y ≡ Equal
neither o x y Less e p q = absurd (p e)
neither o x y Equal e p q = e
neither o x y Greater e p q = absurd (q (o.antisymm y x ∙ ap ordering_reverse e))

pub neither_less : {K : Type 0} {R : K → K → Ordering} → IsTotalOrder R → IsAntisymmetric R → (x y : K) → (R x y ≡ Less → ⊥) → (R y x ≡ Less → ⊥) → x ≡ y
neither_less {R = R} o apart x y p q = apart x y (neither o x y (R x y) refl p q)

-- a value ties with itself
pub same_ties : {K : Type 0} {R : K → K → Ordering} → IsTotalOrder R → (x y : K) → x ≡ y → R x y ≡ Equal
same_ties {R = R} o x y e = subst (λ z. R x z ≡ Equal) e (tied_itself o x)

-- a test that tells all values apart, and finds each equal to itself, decides whether two are one
pub decides : {K : Type 0} {E : K → K → Bool} → IsEquivalence E → IsExact E → (x y : K) → Decides (E x y) (x ≡ y)
decides {E = E} laws exact x y = (exact x y, λ e. subst (λ z. E x z ≡ true) e (laws.refl x))

pub text_total : IsTotalOrder text_cmp
text_total = nat_list_cmp_total

pub text_apart : IsAntisymmetric text_cmp
text_apart = slice_cmp-IsAntisymmetric nat_cmp-IsAntisymmetric

bool_apart : IsAntisymmetric bool_cmp
bool_apart true true e = refl
bool_apart false false e = refl
bool_apart true false e = cc
bool_apart false true e = cc

pub value_apart : IsAntisymmetric value_cmp
value_apart (Text a) (Text b) e = ap Text (text_apart a b e)
value_apart (Truth a) (Truth b) e = ap Truth (bool_apart a b e)
value_apart (Whole a) (Whole b) e = ap Whole (int_cmp-IsAntisymmetric a b e)
value_apart a b e = cc

value_flips : (a b : AttrValue) → value_cmp a b ≡ ordering_reverse (value_cmp b a)
value_flips (Text a) (Text b) = text_total.antisymm a b
value_flips (Truth a) (Truth b) = bool_cmp_total.antisymm a b
value_flips (Whole a) (Whole b) = int_cmp_total.antisymm a b
value_flips (Text a) (Truth b) = refl
value_flips (Text a) (Whole b) = refl
value_flips (Truth a) (Text b) = refl
value_flips (Truth a) (Whole b) = refl
value_flips (Whole a) (Text b) = refl
value_flips (Whole a) (Truth b) = refl

value_chains : (a b c : AttrValue) → value_cmp a b ≡ Less → value_cmp b c ≡ Less → value_cmp a c ≡ Less
value_chains (Text a) (Text b) (Text c) p q = text_total.trans a b c p q
value_chains (Truth a) (Truth b) (Truth c) p q = bool_cmp_total.trans a b c p q
value_chains (Whole a) (Whole b) (Whole c) p q = int_cmp_total.trans a b c p q
value_chains (Text a) b (Truth c) p q = refl
value_chains (Text a) b (Whole c) p q = refl
value_chains (Truth a) b (Whole c) p q = refl
value_chains a b c p q = cc

pub value_total : IsTotalOrder value_cmp
value_total = record { antisymm = value_flips; trans = value_chains; congr = λ a b c e. ap (λ v. value_cmp v c) (value_apart a b e) }

bool_ties : (a b : Bool) → (bools.ghosts).eq a b ≡ eq_by_cmp bool_cmp a b
bool_ties true true = refl
bool_ties true false = refl
bool_ties false true = refl
bool_ties false false = refl

pub value_ties : (a b : AttrValue) → (values.ghosts).eq a b ≡ eq_by_cmp value_cmp a b
value_ties (Text a) (Text b) = texts_ties a b
value_ties (Truth a) (Truth b) = bool_ties a b
value_ties (Whole a) (Whole b) = refl
value_ties (Text a) (Truth b) = refl
value_ties (Text a) (Whole b) = refl
value_ties (Truth a) (Text b) = refl
value_ties (Truth a) (Whole b) = refl
value_ties (Whole a) (Text b) = refl
value_ties (Whole a) (Truth b) = refl

pub value_decides : (a b : AttrValue) → Decides ((values.ghosts).eq a b) (a ≡ b)
value_decides = decides value_eq_laws.laws-law exact_values

pub pair_total : IsTotalOrder pair_cmp
pair_total = then_total (on_total (λ p. p.0) text_total) (on_total (λ p. p.1) value_total)

pub set_total : IsTotalOrder set_cmp
set_total = lists_total pair_total

pub set_ties : (a b : List (List ℕ × AttrValue)) → (pairs.ghosts).eq a b ≡ eq_by_cmp set_cmp a b
set_ties = lists_ties pair_cmp (λ p q. both_tied _ _ _ _ (texts_ties p.0 q.0) (value_ties p.1 q.1))

pub set_apart : IsAntisymmetric set_cmp
set_apart a b e = exact_lists (exact_pairs exact_texts exact_values) a b (set_ties a b ∙ ap is_eq e)

pub set_decides : (a b : List (List ℕ × AttrValue)) → Decides ((pairs.ghosts).eq a b) (a ≡ b)
set_decides = decides pairs_eq_laws.laws-law (exact_lists (exact_pairs exact_texts exact_values))

pub set_partial : IsPartialOrder (pairs.ghosts).eq (as_partial_cmp set_cmp)
set_partial = po set_total set_ties

-- lists of values that an order tells apart
pub list_total : {K : Type 0} {R : K → K → Ordering} → IsTotalOrder R → IsTotalOrder (slice_cmp R)
list_total o = lists_total o

pub list_apart : {K : Type 0} {R : K → K → Ordering} → IsAntisymmetric R → IsAntisymmetric (slice_cmp R)
list_apart apart = slice_cmp-IsAntisymmetric apart
