-- The writers of a setup by their places.
use Rattle.std.specs.Prelude.{ℕ, List, [], map, slice_index_or, length}
use Rattle.rollup_kit.specs.Writers as writers
use Rattle.rollup_kit.specs.Writers.{Writers}
use Rattle.world_kit.specs.declared.setup.Setup.{Setup}
use Rattle.world_kit.specs.declared.setup.WriterSetup.{WriterSetup}

-- what stands where there is no writer
abbrev pub no_writer : WriterSetup
no_writer = record { id = record { service = []; instance = [] }; plan = record { instruments = []; streams = []; limit = 0 }; start = 0 }

-- the writer at a place
abbrev pub writer_at : Setup → ℕ → WriterSetup
writer_at s w = slice_index_or s.writers w no_writer

-- the starts of all writers, by their places
abbrev pub starts_of : Setup → List ℕ
starts_of s = map (λ w. w.start) s.writers

-- the writers, without what else a setup has
abbrev pub writers_of : Setup → Writers
writers_of s = record { who = λ w. (writer_at s w).id; plan = λ w. (writer_at s w).plan; starts = starts_of s }

-- no plan of a setup has a stream twice
abbrev pub ArePlans : Setup → Type 0
ArePlans s = writers.ArePlans (writers_of s)

-- how many gateways there are
abbrev pub gateways_of : Setup → ℕ
gateways_of s = length s.gateways
