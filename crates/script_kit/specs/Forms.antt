-- The forms that a word may have.
use Rattle.std.specs.Prelude.{ℕ, List, [], Option, Some, None, Bool, ◌&&◌, ◌||◌, nat_le, length, if◌then◌else◌, codes}
use Rattle.std.specs.List.{list_all}
use Rattle.std.specs.Str.{bytes_eq}
use Rattle.uuid.specs.Text.{parsed}

-- whether a word is `-`
abbrev pub is_dash : List ℕ → Bool
is_dash word = bytes_eq word (codes "-")

-- whether a word is `*`
abbrev pub is_star : List ℕ → Bool
is_star word = bytes_eq word (codes "*")

-- a lower-case letter or a digit
abbrev pub is_label_byte : ℕ → Bool
is_label_byte b = (nat_le 97 b && nat_le b 122) || (nat_le 48 b && nat_le b 57)

-- a label has 1 to 16 bytes, lower-case letters and digits
abbrev pub is_label : List ℕ → Bool
is_label word = nat_le 1 (length word) && nat_le (length word) 16 && list_all is_label_byte word

unfoldable pub label_of : List ℕ → Option (List ℕ)
label_of word = if is_label word then Some word else None

-- a scope or a unit: `-` is the empty text
unfoldable pub part_of : List ℕ → List ℕ
part_of word = if is_dash word then [] else word

-- a criterion, or a service: `*` is none
unfoldable pub unless_star : List ℕ → Option (List ℕ)
unless_star word = if is_star word then None else Some word

-- a scope that a view asks for: `*` is none, and `-` the empty scope
unfoldable pub scope_of : List ℕ → Option (List ℕ)
scope_of word = if is_star word then None else Some (part_of word)

-- a new name: `-` is none
unfoldable pub rename_of : List ℕ → Option (List ℕ)
rename_of word = if is_dash word then None else Some word

-- the sixteen bytes that a text of a UUID stands for
unfoldable pub uuid_of : List ℕ → Option (List ℕ)
uuid_of = parsed
