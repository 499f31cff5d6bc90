-- What a place at a writer that threads share knows to be held.
use Rattle.std.specs.Prelude.{◌++◌, ℕ, List}
use Rattle.turn_kit.specs.Public.{seen}
use Rattle.turn_kit.specs.declared.seat.Seat.{Seat}
use Rattle.writer_kit.specs.Shared.{first_of, held_in}
use Rattle.writer_kit.specs.Written.{Written}
use Rattle.writer_kit.specs.declared.shared.change.WriterChange.{WriterChange}
use Rattle.writer_kit.specs.declared.shared.writer.SharedWriter.{SharedWriter}
use Rattle.kit_c.specs.Pairs.{AreNumbers}
use Rattle.kit_c.specs.declared.pairs.Pair.{Pair}

-- each number that is noted is that of its pair, by what the first writer held and what the seat has seen
abbrev pub Know : {G : Type 0} {g : _} → SharedWriter G → Seat Written WriterChange g → List (Pair × ℕ) → Type 0
Know shared s es = AreNumbers ((first_of shared).tally.held ++ held_in (seen s)) es
