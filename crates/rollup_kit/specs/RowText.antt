-- The cells of a row as they are printed.
use Rattle.std.specs.Prelude.{ℕ, ℤ, Bool, true, false, ◌==◌, ◌||◌, if◌then◌else◌, List, [], ◌∷◌, ◌++◌, codes, Option, Some, None}
use Rattle.std.specs.Char.{is_ascii_alphanumeric}
use Rattle.std.specs.Fmt.{decimal, signed_decimal}
use Rattle.std.specs.List.{join_by, list_all}
use Rattle.attr_kit.specs.declared.attr_value.AttrValue.{AttrValue}
use Rattle.attr_kit.specs.declared.attr_value.AttrValue.TheVariants.{Text, Truth, Whole}
use Rattle.rollup_kit.specs.declared.row.Total.{Total}
use Rattle.rollup_kit.specs.declared.row.Total.TheVariants.{Sum, Gauge, Hist}
use Rattle.rollup_kit.specs.Quote.{quotation}

-- an ASCII letter or digit, `_`, `.`, `-` or `/`
abbrev pub is_plain : ℕ → Bool
is_plain c = is_ascii_alphanumeric c || c == 95 || c == 46 || c == 45 || c == 47

-- a key as it is where all of it is plain, else in quotes
unfoldable pub key_text : List ℕ → List ℕ
key_text key = if list_all is_plain key then key else quotation key

unfoldable pub value_text : AttrValue → List ℕ
value_text (Text text) = quotation text
value_text (Truth true) = codes "true"
value_text (Truth false) = codes "false"
value_text (Whole number) = signed_decimal number

-- a key, `=`, and its value
abbrev pub pair_text : List ℕ × AttrValue → List ℕ
pair_text p = key_text p.0 ++ 61 ∷ value_text p.1

-- what stands before the piece at this place of a list
abbrev pub comma_before : ℕ → List ℕ
comma_before place = if place == 0 then [] else 44 ∷ []

-- the pairs between braces, with a comma between each two
unfoldable pub attributes_text : List (List ℕ × AttrValue) → List ℕ
attributes_text ps = 123 ∷ join_by pair_text (44 ∷ []) ps ++ 125 ∷ []

-- the value, `@`, and its time; `-` where there is none
unfoldable pub gauge_text : Option (ℕ × ℤ) → List ℕ
gauge_text (Some point) = signed_decimal point.1 ++ 64 ∷ decimal point.0
gauge_text None = codes "-"

-- the numbers with a comma between each two
abbrev pub numbers_text : List ℕ → List ℕ
numbers_text ns = join_by decimal (44 ∷ []) ns

-- the least and the greatest value, where they are known
unfoldable pub range_text : Option (ℤ × ℤ) → List ℕ
range_text (Some range) = codes " min=" ++ signed_decimal range.0 ++ codes " max=" ++ signed_decimal range.1
range_text None = []

unfoldable pub total_text : Total → List ℕ
total_text (Sum sum) = signed_decimal sum
total_text (Gauge newest) = gauge_text newest
total_text (Hist count sum buckets range) = codes "count=" ++ decimal count ++ codes " sum=" ++ signed_decimal sum ++ codes " buckets=" ++ numbers_text buckets ++ range_text range
