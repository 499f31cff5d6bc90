-- The points of a gateway as they are lent one after the other.
use Rattle.std.specs.Prelude.{ℕ, Bool, true, nat_eq, List, [], ◌++◌, filter, Option, Some, None}
use Rattle.std.specs.Borrow.{Bor}
use Rattle.std.specs.Cmp.Lexicographic.{pointwise}
use Rattle.point_kit.specs.declared.cell.Cell.{Cell}
use Rattle.point_kit.specs.declared.key.Key.{Key}
use Rattle.point_kit.specs.declared.payload.Payload.{Payload}
use Rattle.point_kit.specs.declared.writer_id.WriterId.{WriterId}
use Rattle.shelf_kit.specs.Walks.{walk_left}
use Rattle.gateway_kit.specs.declared.part_item.PartItem.{PartItem}
use Rattle.gateway_kit.specs.declared.points.PointRef.{PointRef}
use Rattle.gateway_kit.specs.declared.points.Points.{Points}
use Rattle.gateway_kit.specs.Queries.{part_points}
use Rattle.gateway_kit.specs.IncarnationState.{IncarnationState}
use Rattle.gateway_kit.specs.Incarnations.{all_points}

-- a lent point, as its key and its cell
abbrev pub keyed_cell_of_ref : PointRef → Key × Cell Payload
keyed_cell_of_ref p = (record { writer = p.writer.now; start = p.start; stream = p.stream.now; attrs = p.attrs.now }, p.cell.now)

-- whether a writer is of a service
abbrev pub is_of : List ℕ → WriterId → Bool
is_of service writer = pointwise nat_eq writer.service service

-- whether a writer is asked for
abbrev pub is_asked : Option (Bor (List ℕ)) → WriterId → Bool
is_asked None writer = true
is_asked (Some service) writer = is_of service.now writer

-- the items that are left of an incarnation, under their whole keys
abbrev pub items_left : Option (Bor IncarnationState × Bor (List PartItem)) → List (Key × Cell Payload)
items_left None = []
items_left (Some here) = part_points here.0.now.writer here.0.now.start here.1.now

-- what is left to be lent, in the order of the keys
abbrev pub points_left : Points → List (Key × Cell Payload)
points_left p = items_left p.here ++ filter (λ e. is_asked p.service e.0.writer) (all_points (walk_left p.ahead))
