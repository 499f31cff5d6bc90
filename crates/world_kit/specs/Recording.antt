-- What a setup's writers record, as rounds.
use Rattle.agg_kit.specs.Entries.{Entry}
use Rattle.point_kit.specs.declared.key.Key.{Key}
use Rattle.point_kit.specs.declared.payload.Payload.{Payload}
use Rattle.point_kit.specs.declared.writer_id.WriterId.{WriterId}
use Rattle.rollup_kit.specs.Naming.{Name}
use Rattle.rollup_kit.specs.Writers as writers
use Rattle.schedule_kit.specs.Rounds.{Rounding}
use Rattle.world_kit.specs.declared.setup.Setup.{Setup}
use Rattle.world_kit.specs.Setups.{writers_of}

-- the collections of a setup's writers, as rounds
abbrev pub rounding : Setup → Rounding Entry Key WriterId Name Payload
rounding s = writers.rounding (writers_of s)
