-- The words of a command line that ask for an archive.
use Rattle.std.specs.Prelude.{◌≡◌, ◌-◌, ◌^◌, ℕ, List, [], ◌∷◌, codes, Ok, Option, Some, None}
use Rattle.point_kit.specs.declared.writer_id.WriterId.{WriterId}
use Rattle.script_kit.specs.Lines.{line_of}
use Rattle.script_kit.specs.declared.line.Command.TheVariants as command
use Rattle.script_kit.specs.declared.line.Declaration.TheVariants as declaration
use Rattle.script_kit.specs.declared.line.Line.TheVariants as line
use Rattle.file_kit.specs.AskWords.{spoken}
use Rattle.file_kit.specs.declared.archive.Archiving.{Archiving}

-- words tell whose an incarnation is and when it began, as behind the label in a script's line `writer`
abbrev pub TellWriter : List (List ℕ) → WriterId → ℕ → Type 0
TellWriter words writer start =
    (label : List ℕ) × (line_of (spoken (codes "writer archive") words) ≡ Ok (line.Declare (declaration.Writer label writer start)))

-- they tell a time, as behind the writer in a line `collect`
abbrev pub TellTime : List (List ℕ) → ℕ → Type 0
TellTime words time = (label : List ℕ) × (line_of (spoken (codes "collect archive") words) ≡ Ok (line.Do (command.Collect label time)))

-- a word tells a limit, as in a line `limit`; where none is given it is the greatest number
abbrev pub TellsLimit : Option (List ℕ) → ℕ → Type 0
TellsLimit (Some word) limit = line_of (spoken (codes "limit") (word ∷ [])) ≡ Ok (line.Declare (declaration.Limit limit))
TellsLimit None limit = limit ≡ 2 ^ 64 - 1

-- words before the time, the word of the time, and that of the limit ask for this archive
pub record IsArchiving (who when : List (List ℕ)) (most : Option (List ℕ)) (ask : Archiving) : Type 0 where
  pub writer : TellWriter who ask.writer ask.start
  pub time : TellTime when ask.time
  pub limit : TellsLimit most ask.limit
