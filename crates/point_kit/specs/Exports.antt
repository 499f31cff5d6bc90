-- The points of exports, each under its key, and their state.
use Rattle.std.specs.Prelude.{◌≡◌, ℕ, List, ◌++◌, map}
use Rattle.std.specs.List.{flat_map}
use Rattle.std.specs.FinMap.{FinMap}
use Rattle.point_kit.specs.declared.cell.Cell.{Cell}
use Rattle.point_kit.specs.declared.key.Key.{Key}
use Rattle.point_kit.specs.declared.export.Export.{Export}
use Rattle.point_kit.specs.declared.export_point.ExportPoint.{ExportPoint}
use Rattle.point_kit.specs.declared.payload.Payload.{Payload}
use Rattle.point_kit.specs.Changes.{changed_keys}
use Rattle.point_kit.specs.Equality.{payload_eq, cell_eq}
use Rattle.point_kit.specs.Join.{join_cells}
use Rattle.point_kit.specs.Orders.{key_cmp}
use Rattle.point_kit.specs.States.{join_maps, state_of}

-- what is held under each key
abbrev pub Points : Type 0
Points = FinMap key_cmp (Cell Payload)

-- two such maps joined key by key
abbrev pub join_points : Points → Points → Points
join_points = join_maps (join_cells payload_eq)

-- the number of keys at which two of them differ
abbrev pub changed_points : Points → Points → ℕ
changed_points = changed_keys cell_eq

-- the key of a point of an export
abbrev pub key_of : Export → ExportPoint → Key
key_of e p = record { writer = e.writer; start = e.start; stream = p.stream; attrs = p.attrs }

-- the points of an export: its time and the payload, under the key
abbrev pub points_of : Export → List (Key × (ℕ × Payload))
points_of e = map (λ p. (key_of e p, (e.time, p.payload))) e.points

-- each key with the best of all points that these exports have under it
abbrev pub state : List Export → Points
state exports = state_of key_cmp payload_eq (flat_map points_of exports)

-- the states of two lists of exports joined are the state of both lists together
abbrev pub JoinsExports : Type 0
JoinsExports = (xs ys : List Export) → state (xs ++ ys) ≡ join_points (state xs) (state ys)
