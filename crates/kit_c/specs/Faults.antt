-- Why calls are refused that take texts and pairs.
use Rattle.std.specs.Prelude.{ℕ, List, Option, not}
use Rattle.std.specs.Option.{option_map}
use Rattle.std.specs.Str.{is_utf8}
use Rattle.attr_kit.specs.Putting.{pairs_fault}
use Rattle.attr_kit.specs.Refusing.{when}
use Rattle.attr_kit.specs.declared.attr_value.AttrValue.{AttrValue}
use Rattle.kit_c.specs.declared.fault.Fault.{Fault}
use Rattle.kit_c.specs.declared.fault.Fault.TheVariants as faults

-- bytes that are no text
unfoldable pub text_fault : List ℕ → Option Fault
text_fault bytes = when (not (is_utf8 bytes)) faults.NotText

-- pairs that make no set
abbrev pub set_fault : List (List ℕ × AttrValue) → Option Fault
set_fault ps = option_map (λ f. faults.Attributes f) (pairs_fault ps)
