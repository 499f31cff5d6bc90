-- The table of rows.
use Rattle.std.specs.Prelude.{ℕ, ◌-◌, List, [], ◌∷◌, ◌++◌, length, fold, max, replicate, codes}
use Rattle.std.specs.Fmt.{decimal}
use Rattle.std.specs.List.{flat_map}
use Rattle.std.specs.Str.{chars}
use Rattle.rollup_kit.specs.RowText.{attributes_text, total_text}
use Rattle.rollup_kit.specs.declared.row.Row.{Row}
use Rattle.rollup_kit.specs.declared.table_text.Column.{Column}
use Rattle.rollup_kit.specs.declared.table_text.Column.TheVariants.{Attributes, Points, Conflicts, Total}

abbrev pub header : Column → List ℕ
header Attributes = codes "attributes"
header Points = codes "points"
header Conflicts = codes "conflicts"
header Total = codes "total"

-- the text of a row in a column
abbrev pub cell : Column → Row → List ℕ
cell Attributes row = attributes_text row.attrs
cell Points row = decimal row.points
cell Conflicts row = decimal row.conflicts
cell Total row = total_text row.total

-- how many characters (Unicode scalar values) a text has
unfoldable pub width : List ℕ → ℕ
width text = length (chars text)

-- the width of the longest of the header and the cells of a column
unfoldable pub widest : Column → List Row → ℕ
widest column rows = fold (λ most row. max most (width (cell column row))) (width (header column)) rows

abbrev pub spaces : ℕ → List ℕ
spaces n = replicate n 32

-- a text aligned to the left, and to the right
abbrev pub left_aligned : ℕ → List ℕ → List ℕ
left_aligned to text = text ++ spaces (to - width text)

abbrev pub right_aligned : ℕ → List ℕ → List ℕ
right_aligned to text = spaces (to - width text) ++ text

-- one line: the first cell to the left, the next two to the right, the last as it is
unfoldable pub line : ℕ → ℕ → ℕ → List ℕ → List ℕ → List ℕ → List ℕ → List ℕ
line first second third attributes points conflicts total =
    left_aligned first attributes ++ spaces 2 ++ right_aligned second points ++ spaces 2 ++ right_aligned third conflicts ++ spaces 2 ++ total ++ 10 ∷ []

-- the line of these cells
abbrev pub line_of : ℕ → ℕ → ℕ → (Column → List ℕ) → List ℕ
line_of first second third cells = line first second third (cells Attributes) (cells Points) (cells Conflicts) (cells Total)

-- the header and each row, a line each, in columns as wide as their longest cell
unfoldable pub table_text : List Row → List ℕ
table_text rows =
    let line_among = line_of (widest Attributes rows) (widest Points rows) (widest Conflicts rows) in
    line_among header ++ flat_map (λ row. line_among (λ column. cell column row)) rows
