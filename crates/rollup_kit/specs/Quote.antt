-- Texts in quotes.
use Rattle.std.specs.Prelude.{ℕ, ◌/◌, ◌%◌, false, List, [], ◌∷◌, ◌++◌, ◌==◌, ◌||◌, nat_lt, if◌then◌else◌, encode_utf8}
use Rattle.std.specs.List.{flat_map}
use Rattle.std.specs.Str.{chars}
use Rattle.std.specs.Fmt.{digit_glyph}

-- a character by its number: `\x` and two hexadecimal digits
abbrev pub hex : ℕ → List ℕ
hex c = 92 ∷ 120 ∷ digit_glyph false (c / 16) ∷ digit_glyph false (c % 16) ∷ []

-- a character in quotes: `\"`, `\\`, `\x` and two hexadecimal digits for a control character, else itself
unfoldable pub escape : ℕ → List ℕ
escape c =
    if c == 34 then 92 ∷ 34 ∷ []
    else if c == 92 then 92 ∷ 92 ∷ []
    else if nat_lt c 32 || c == 127 then hex c
    else encode_utf8 c

-- a text between quotes, each of its characters escaped
unfoldable pub quotation : List ℕ → List ℕ
quotation text = 34 ∷ flat_map escape (chars text) ++ 34 ∷ []
