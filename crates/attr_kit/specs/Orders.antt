-- The orders of values and of sets.
use Rattle.std.specs.Prelude.{ℕ, List}
use Rattle.std.specs.Cmp.Lexicographic.{slice_cmp}
use Rattle.std.specs.Ordering.{nat_cmp, int_cmp, bool_cmp, ordering_then}
use Rattle.std.specs.declared.cmp.Ordering.{Ordering}
use Rattle.std.specs.declared.cmp.Ordering.TheVariants.{Less, Greater}
use Rattle.attr_kit.specs.declared.attr_value.AttrValue.{AttrValue}
use Rattle.attr_kit.specs.declared.attr_value.AttrValue.TheVariants.{Text, Truth, Whole}

-- texts go by their bytes, a proper prefix being less
abbrev pub text_cmp : List ℕ → List ℕ → Ordering
text_cmp = slice_cmp nat_cmp

-- every text is below every truth, every truth below every whole number; then by text, false below true, by number
abbrev pub value_cmp : AttrValue → AttrValue → Ordering
value_cmp (Text a) (Text b) = text_cmp a b
value_cmp (Text a) (Truth b) = Less
value_cmp (Text a) (Whole b) = Less
value_cmp (Truth a) (Text b) = Greater
value_cmp (Truth a) (Truth b) = bool_cmp a b
value_cmp (Truth a) (Whole b) = Less
value_cmp (Whole a) (Text b) = Greater
value_cmp (Whole a) (Truth b) = Greater
value_cmp (Whole a) (Whole b) = int_cmp a b

-- a pair goes by its key, then by its value
abbrev pub pair_cmp : List ℕ × AttrValue → List ℕ × AttrValue → Ordering
pair_cmp p q = ordering_then (text_cmp p.0 q.0) (value_cmp p.1 q.1)

-- sets go pair by pair, a proper prefix being less
abbrev pub set_cmp : List (List ℕ × AttrValue) → List (List ℕ × AttrValue) → Ordering
set_cmp = slice_cmp pair_cmp
