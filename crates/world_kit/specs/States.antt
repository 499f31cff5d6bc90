-- The exports of collections, and what holders have of them.
use Rattle.std.specs.Prelude.{ℕ, List}
use Rattle.std.specs.List.{flat_map}
use Rattle.agg_kit.specs.Entries.{Entry}
use Rattle.point_kit.specs.declared.export.Export.{Export}
use Rattle.point_kit.specs.declared.key.Key.{Key}
use Rattle.point_kit.specs.declared.payload.Payload.{Payload}
use Rattle.point_kit.specs.Equality.{payload_eq}
use Rattle.point_kit.specs.Exports.{Points}
use Rattle.point_kit.specs.Orders.{key_cmp}
use Rattle.point_kit.specs.States.{state_of}
use Rattle.rollup_kit.specs.Fleets as fleets
use Rattle.schedule_kit.specs.Deeds.{Deed, Made, Holder}
use Rattle.schedule_kit.specs.Taken.{taken_collections}
use Rattle.world_kit.specs.declared.setup.Setup.{Setup}
use Rattle.world_kit.specs.Setups.{starts_of, writers_of}

-- an export is that of a collection: its writer, its start, its time, and the round of its entries
abbrev pub IsExportOf : Setup → Made Entry → Export → Type 0
IsExportOf s = fleets.IsExportOf (writers_of s)

-- the points of a collection's export, each under its key
abbrev pub made_points : Setup → Made Entry → List (Key × (ℕ × Payload))
made_points s = fleets.made_points (writers_of s)

-- the state of the exports that a holder took
unfoldable pub state_at : Setup → List (Deed Entry) → Holder → Points
state_at s ds h = state_of key_cmp payload_eq (flat_map (made_points s) (taken_collections (starts_of s) ds h))
