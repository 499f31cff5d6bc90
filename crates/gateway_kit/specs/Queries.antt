-- What is read from a gateway's points.
use Rattle.std.specs.Prelude.{ℕ, Bool, true, false, not, ◌&&◌, List, filter, map, Option}
use Rattle.std.specs.FinMap.{entries}
use Rattle.std.specs.Ordering.{eq_by_cmp}
use Rattle.point_kit.specs.Exports.{Points}
use Rattle.point_kit.specs.declared.cell.Cell.{Cell}
use Rattle.point_kit.specs.declared.cell.Held.{Held}
use Rattle.point_kit.specs.declared.cell.Held.TheVariants.{One, Conflict}
use Rattle.point_kit.specs.contracts.stream.StreamPartialEq.TheImpl as streams
use Rattle.point_kit.specs.declared.key.Key.{Key}
use Rattle.point_kit.specs.declared.payload.Payload.{Payload}
use Rattle.point_kit.specs.declared.stream.Stream.{Stream}
use Rattle.point_kit.specs.declared.writer_id.WriterId.{WriterId}
use Rattle.gateway_kit.specs.Keys.{ItemKey, incarnation_cmp, keyed_cell_of, whole_key}
use Rattle.gateway_kit.specs.Times.{greatest}
use Rattle.gateway_kit.specs.declared.part_item.PartItem.{PartItem}

-- whether different payloads came
abbrev pub is_several : Held Payload → Bool
is_several (One p) = false
is_several Conflict = true

-- whether different payloads came at the time of a cell
abbrev pub has_conflict : Cell Payload → Bool
has_conflict cell = is_several cell.held

-- whether a key is of this incarnation of a writer
abbrev pub is_of_incarnation : WriterId → ℕ → Key → Bool
is_of_incarnation writer start key = eq_by_cmp incarnation_cmp (writer, start) (key.writer, key.start)

-- whether what a point of an incarnation is of is of a stream
abbrev pub in_stream : Stream → ItemKey → Bool
in_stream stream q = (streams.ghosts).eq stream q.0

-- whether a key is of this incarnation, and of another stream
abbrev pub is_of_other_stream : WriterId → ℕ → Stream → Key → Bool
is_of_other_stream writer start stream key = is_of_incarnation writer start key && not (in_stream stream (key.stream, key.attrs))

-- the points of an incarnation, in the order of their keys
abbrev pub incarnation_points : WriterId → ℕ → Points → List (Key × Cell Payload)
incarnation_points writer start points = filter (λ e. is_of_incarnation writer start e.0) (entries points)

-- items of an incarnation, as points under their whole keys
abbrev pub part_points : WriterId → ℕ → List PartItem → List (Key × Cell Payload)
part_points writer start items = map (λ i. (whole_key (writer, start) (keyed_cell_of i).0, i.cell)) items

-- the greatest time held of an incarnation
abbrev pub newest_time : WriterId → ℕ → Points → Option ℕ
newest_time writer start points = greatest (map (λ e. e.1.time) (incarnation_points writer start points))
