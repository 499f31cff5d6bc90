-- What was recorded, as a query of a gateway is to answer it.
use Rattle.std.specs.Prelude.{◌≡◌, ℕ, ℤ, List, slice_get, Some}
use Rattle.agg_kit.specs.Entries.{Entry}
use Rattle.gossip_kit.specs.Views.{NodeModel}
use Rattle.point_kit.specs.declared.key.Key.{Key}
use Rattle.rollup_kit.specs.Naming.{Name}
use Rattle.rollup_kit.specs.Writers as writers
use Rattle.rollup_kit.specs.Rollups.{AddsUp, recorded_rows, rollup_rows}
use Rattle.rollup_kit.specs.declared.ask.Ask.{Ask}
use Rattle.rollup_kit.specs.declared.row.Row.{Row}
use Rattle.schedule_kit.specs.Deeds.Holder.{AtGateway}
use Rattle.schedule_kit.specs.Rows.{values_fed, keys_fed}
use Rattle.schedule_kit.specs.Taken.{recorded_up_to, incarnations}
use Rattle.world_kit.specs.declared.setup.Setup.{Setup}
use Rattle.world_kit.specs.WorldState.{WorldState}
use Rattle.world_kit.specs.Judged.{Deeds}
use Rattle.world_kit.specs.Recording.{rounding}
use Rattle.world_kit.specs.Setups.{starts_of, writers_of}

-- what entries of the writer at a place feed: each value under its name
abbrev pub entries_fed : Setup → ℕ → List Entry → List (Name × ℤ)
entries_fed s = writers.entries_fed (writers_of s)

-- of every incarnation, what it recorded up to its newest collection that gateway g took: each value under the key that it feeds
abbrev pub values_recorded : Setup → Deeds → ℕ → List (Key × ℤ)
values_recorded s ds g = values_fed (rounding s) (recorded_up_to (starts_of s) ds (AtGateway g)) (incarnations (starts_of s) ds) (entries_fed s)

-- and each key that is fed, once
abbrev pub keys_recorded : Setup → Deeds → ℕ → List Key
keys_recorded s ds g = keys_fed (rounding s) (recorded_up_to (starts_of s) ds (AtGateway g)) (incarnations (starts_of s) ds)

-- the rows of what was recorded, each value added up by itself
unfoldable pub recorded : Setup → Deeds → ℕ → Ask → List Row
recorded s ds g ask = recorded_rows ask (values_recorded s ds g) (keys_recorded s ds g)

-- each gateway's roll-up for each ask of a sum or a histogram stream is what was recorded
abbrev pub AnswersRecorded : Setup → Deeds → WorldState → Type 0
AnswersRecorded s ds w = (g : ℕ) (n : NodeModel) → slice_get w.nodes g ≡ Some n → (ask : Ask) → AddsUp ask.stream.shape → rollup_rows ask n.gateway.points ≡ recorded s ds g ask
