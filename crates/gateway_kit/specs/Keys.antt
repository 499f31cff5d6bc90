-- A key in two parts: the incarnation that it is of, and what it is of there.
use Rattle.std.specs.Prelude.{ℕ, List}
use Rattle.std.specs.declared.cmp.Ordering.{Ordering}
use Rattle.std.specs.Ordering.{nat_cmp, ordering_then}
use Rattle.attr_kit.specs.declared.attr_value.AttrValue.{AttrValue}
use Rattle.attr_kit.specs.contracts.attr_set.AttrSetOrd.TheImpl as sets
use Rattle.point_kit.specs.contracts.stream.StreamOrd.TheImpl as streams
use Rattle.point_kit.specs.contracts.writer_id.WriterIdOrd.TheImpl as writers
use Rattle.point_kit.specs.declared.cell.Cell.{Cell}
use Rattle.point_kit.specs.declared.key.Key.{Key}
use Rattle.point_kit.specs.declared.payload.Payload.{Payload}
use Rattle.point_kit.specs.declared.stream.Stream.{Stream}
use Rattle.point_kit.specs.declared.writer_id.WriterId.{WriterId}
use Rattle.gateway_kit.specs.declared.part_item.PartItem.{PartItem}

-- an incarnation of a writer: who it is, and since when it runs
abbrev pub IncarnationKey : Type 0
IncarnationKey = WriterId × ℕ

-- what a point of an incarnation is of: a stream, and attributes
abbrev pub ItemKey : Type 0
ItemKey = Stream × List (List ℕ × AttrValue)

-- by writer, then by start
abbrev pub incarnation_cmp : IncarnationKey → IncarnationKey → Ordering
incarnation_cmp a b = ordering_then ((writers.ghosts).cmp a.0 b.0) (nat_cmp a.1 b.1)

-- by stream, then by attributes
abbrev pub item_cmp : ItemKey → ItemKey → Ordering
item_cmp a b = ordering_then ((streams.ghosts).cmp a.0 b.0) ((sets.ghosts).cmp a.1 b.1)

-- the whole key
abbrev pub whole_key : IncarnationKey → ItemKey → Key
whole_key a b = record { writer = a.0; start = a.1; stream = b.0; attrs = b.1 }

-- an item's key within its incarnation, with its number
abbrev pub key_and_number : PartItem → ItemKey × ℕ
key_and_number item = ((item.stream, item.attrs), item.number)

-- and with its cell
abbrev pub keyed_cell_of : PartItem → ItemKey × Cell Payload
keyed_cell_of item = ((item.stream, item.attrs), item.cell)
