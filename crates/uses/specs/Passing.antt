-- A gateway's points with an export.
use Rattle.std.specs.Prelude.{[], ◌∷◌}
use Rattle.point_kit.specs.Exports.{Points, join_points, state}
use Rattle.point_kit.specs.declared.export.Export.{Export}

-- what an export adds to points
abbrev pub with_export : Points → Export → Points
with_export points export = join_points points (state (export ∷ []))
