-- What a line of a script says.
use Rattle.std.specs.Prelude.{◌≡◌, ℕ, ℤ, List}
use Rattle.attr_kit.specs.declared.attr_set.AttrSet.{AttrSet}
use Rattle.point_kit.specs.declared.stream.Stream.{Stream}
use Rattle.point_kit.specs.declared.writer_id.WriterId.{WriterId}
use Rattle.script_kit.specs.declared.line.Command.TheVariants as commands
use Rattle.script_kit.specs.declared.line.Declaration.TheVariants as declarations
use Rattle.script_kit.specs.declared.line.Line.{Line}
use Rattle.script_kit.specs.declared.line.Line.TheVariants as lines
use Rattle.script_kit.specs.declared.line.Query.TheVariants as queries
use Rattle.script_kit.specs.declared.line.Report.{Report}

-- it declares a writer under a label
abbrev pub Declares : Line → List ℕ → WriterId → Type 0
Declares line label id = (start : ℕ) × (line ≡ lines.Declare (declarations.Writer label id start))

-- it records a value at a writer
abbrev pub Measures : Line → List ℕ → ℤ → Type 0
Measures line writer value = (instrument : List ℕ) × (attrs : AttrSet) × (line ≡ lines.Do (commands.Measure writer instrument value attrs))

-- it asks a gateway for a stream
abbrev pub Asks : Line → Stream → Type 0
Asks line stream = (gateway : ℕ) × (report : Report) × (line ≡ lines.Ask (queries.Report gateway report)) × (report.stream ≡ stream)
