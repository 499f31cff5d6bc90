-- The words of a command line that ask for a table.
use Rattle.std.specs.Prelude.{◌≡◌, ℕ, List, ◌∷◌, ◌++◌, codes, Ok}
use Rattle.std.specs.List.{flat_map}
use Rattle.rollup_kit.specs.declared.ask.Ask.{Ask}
use Rattle.script_kit.specs.Lines.{line_of}
use Rattle.script_kit.specs.Shapes.{script_shape}
use Rattle.script_kit.specs.declared.line.Line.TheVariants as line
use Rattle.script_kit.specs.declared.line.Query.TheVariants as query
use Rattle.script_kit.specs.declared.line.Report.{Report}

-- a line of a script: what it begins with, and words
unfoldable pub spoken : List ℕ → List (List ℕ) → List ℕ
spoken first words = first ++ flat_map (λ word. 32 ∷ word) words

-- the words with the fourth, which is of a shape, as scripts have it
abbrev pub script_words : List (List ℕ) → List (List ℕ)
script_words (scope ∷ name ∷ unit ∷ shape ∷ rest) = scope ∷ name ∷ unit ∷ script_shape shape ∷ rest
script_words words = words

-- the line that asks the same: `report`, a gateway, and the words
abbrev pub ask_line : List (List ℕ) → List ℕ
ask_line words = spoken (codes "report 1") (script_words words)

-- what a report asks
abbrev pub ask_of : Report → Ask
ask_of r = record { stream = r.stream; service = r.service; only = r.only; keep = r.keep }

-- the words ask for this
abbrev pub IsAsk : List (List ℕ) → Ask → Type 0
IsAsk words ask = (gateway : ℕ) × (r : Report) × (line_of (ask_line words) ≡ Ok (line.Ask (query.Report gateway r))) × (ask ≡ ask_of r)
