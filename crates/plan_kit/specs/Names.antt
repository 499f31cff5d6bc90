-- The rules of names and units.
use Rattle.std.specs.Prelude.{ℕ, ◌==◌, ◌&&◌, ◌||◌, nat_le, List, [], ◌∷◌, Bool, false, length, map}
use Rattle.std.specs.List.{list_all}
use Rattle.std.specs.Char.{is_ascii, is_ascii_alphabetic, is_ascii_alphanumeric, to_ascii_lowercase}

-- a letter or a digit of ASCII, or one of `_`, `.`, `-` and `/`
abbrev pub is_name_byte : ℕ → Bool
is_name_byte b = is_ascii_alphanumeric b || (b == 95) || (b == 46) || (b == 45) || (b == 47)

abbrev pub begins_with_letter : List ℕ → Bool
begins_with_letter [] = false
begins_with_letter (b ∷ bs) = is_ascii_alphabetic b

-- a name has at most 255 characters, begins with a letter of ASCII, and holds letters and digits of ASCII, `_`, `.`, `-` and `/`
unfoldable pub is_name : List ℕ → Bool
is_name bs = nat_le (length bs) 255 && begins_with_letter bs && list_all is_name_byte bs

-- a unit has at most 63 characters, all of ASCII
unfoldable pub is_unit : List ℕ → Bool
is_unit bs = nat_le (length bs) 63 && list_all is_ascii bs

-- a text with the letters of ASCII in lower case
abbrev pub lower : List ℕ → List ℕ
lower bs = map to_ascii_lowercase bs
