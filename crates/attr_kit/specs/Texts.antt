-- What lies under a text.
use Rattle.std.specs.Prelude.{◌<◌, ℕ, List, length, string_bytes}
use Rattle.attr_kit.specs.declared.txt.Form.{Form}
use Rattle.attr_kit.specs.declared.txt.Form.TheVariants.{Short, Long}

-- the bytes of a text, held in place or in memory
abbrev pub form_bytes : Form → List ℕ
form_bytes (Short text) = text
form_bytes (Long text) = string_bytes text

-- memory holds only texts that have no room in place
abbrev pub IsPlaced : Form → Type 0
IsPlaced (Short text) = Unit {0}
IsPlaced (Long text) = 30 < length (string_bytes text)
