-- What is read of lists by numbers, and of values.
use Rattle.std.specs.Prelude.{ℕ, ℤ, pos, Bool, true, false, List, length, slice_get, Option, Some, None}
use Rattle.attr_kit.specs.declared.attr_value.AttrValue.{AttrValue}
use Rattle.attr_kit.specs.declared.attr_value.AttrValue.TheVariants as values
use Rattle.kit_c.specs.declared.fault.Fault.{Fault}
use Rattle.kit_c.specs.declared.fault.Fault.TheVariants as faults

-- there is no item
abbrev pub missing : {X : Type 0} → Option X → Option Fault
missing None = Some faults.NoItem
missing (Some x) = None

-- there is no item of a number
abbrev pub item_fault : {X : Type 0} → ℕ → List X → Option Fault
item_fault n xs = missing (slice_get xs n)

-- the number of a value's kind: 0 a text, 1 a whole number, 2 a truth
abbrev pub kind_number : AttrValue → ℕ
kind_number (values.Text t) = 0
kind_number (values.Whole n) = 1
kind_number (values.Truth b) = 2

abbrev pub truth_number : Bool → ℤ
truth_number true = pos 1
truth_number false = pos 0

-- a value as a number: a truth is 1 or 0, and of a text it is the length
abbrev pub value_number : AttrValue → ℤ
value_number (values.Text t) = pos (length t)
value_number (values.Whole n) = n
value_number (values.Truth b) = truth_number b

-- the text of a value
abbrev pub value_text : AttrValue → Option (List ℕ)
value_text (values.Text t) = Some t
value_text other = None

-- a value is no text
abbrev pub no_text : AttrValue → Option Fault
no_text (values.Text t) = None
no_text other = Some faults.WrongShape

abbrev pub no_text_in : Option (List ℕ × AttrValue) → Option Fault
no_text_in None = Some faults.NoItem
no_text_in (Some p) = no_text p.1
