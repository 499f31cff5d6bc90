-- The words that list attributes.
use Rattle.std.specs.Prelude.{ℕ, List, [], ◌∷◌, Option, Some, None, true, false, ◌==◌, if◌then◌else◌, codes}
use Rattle.std.specs.List.{slice_split}
use Rattle.std.specs.Option.{option_map, option_map_or, option_and_then, is_none}
use Rattle.std.specs.Str.{bytes_eq}
use Rattle.attr_kit.specs.declared.attr_value.AttrValue.{AttrValue}
use Rattle.attr_kit.specs.declared.attr_value.AttrValue.TheVariants as values
use Rattle.attr_kit.specs.Putting.{attributes_of, pairs_fault}
use Rattle.script_kit.specs.Forms.{is_dash}
use Rattle.script_kit.specs.Numbers.{value_of}
use Rattle.script_kit.specs.Pieces.{cut, all_some}

-- a text, without the `'` that it may begin with
abbrev pub plain_text : List ℕ → List ℕ
plain_text [] = []
plain_text (c ∷ cs) = if c == 39 then cs else c ∷ cs

-- `true` and `false` are truths, a numeral a whole number, anything else a text
unfoldable pub meaning_of : List ℕ → AttrValue
meaning_of word =
    if bytes_eq word (codes "true") then values.Truth true
    else if bytes_eq word (codes "false") then values.Truth false
    else option_map_or (λ n. values.Whole n) (value_of word) (values.Text (plain_text word))

-- a key, and the value after the first `=`
abbrev pub pair_from : List ℕ × List ℕ → List ℕ × AttrValue
pair_from parts = (parts.0, meaning_of parts.1)

unfoldable pub pair_of : List ℕ → Option (List ℕ × AttrValue)
pair_of piece = option_map pair_from (cut 61 piece)

-- `-`, or pairs between commas
unfoldable pub pairs_of : List ℕ → Option (List (List ℕ × AttrValue))
pairs_of word = if is_dash word then Some [] else all_some pair_of (slice_split (λ b. b == 44) word)

-- the set of these pairs, unless a key is empty
unfoldable pub set_of_pairs : List (List ℕ × AttrValue) → Option (List (List ℕ × AttrValue))
set_of_pairs ps = if is_none (pairs_fault ps) then Some (attributes_of ps) else None

-- the attribute set that a word lists
unfoldable pub attributes : List ℕ → Option (List (List ℕ × AttrValue))
attributes word = option_and_then set_of_pairs (pairs_of word)
