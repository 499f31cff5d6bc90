-- When bytes are a text.
use Rattle.std.proofs.Common.{◌≡◌, ℕ, List, true, false, Bool, None, Some, refl}
use Rattle.std.specs.Str.{IsUtf8, is_utf8}
use Rattle.std.proofs.lemmas.Str.{is_utf8-from_IsUtf8, IsUtf8-from_is_utf8}
use Rattle.kit_c.specs.Faults.{text_fault}
use Rattle.kit_c.specs.declared.fault.Fault.TheVariants as faults

pub is_a_text : (bytes : List ℕ) → IsUtf8 bytes → text_fault bytes ≡ None
unfolding text_fault
is_a_text bytes is = rw (is_utf8-from_IsUtf8 bytes is) refl

pub is_no_text : (bytes : List ℕ) → (IsUtf8 bytes → ⊥) → text_fault bytes ≡ Some faults.NotText
unfolding text_fault
is_no_text bytes not = by (is_utf8 bytes) refl
  where
    by : (b : Bool) → is_utf8 bytes ≡ b → text_fault bytes ≡ Some faults.NotText
    by true e = absurd (not (IsUtf8-from_is_utf8 bytes e))
    by false e = rw e refl
