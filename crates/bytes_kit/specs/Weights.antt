-- How much is held of an export or a message: points, streams, pairs, bounds and buckets, and bytes of long texts.
use Rattle.std.specs.Prelude.{ℕ, ◌+◌, if◌then◌else◌, Bool, true, false, List, [], ◌∷◌, length, Option, None}
use Rattle.gossip_kit.specs.Views.{MessageModel}
use Rattle.attr_kit.specs.declared.attr_value.AttrValue.{AttrValue}
use Rattle.attr_kit.specs.declared.attr_value.AttrValue.TheVariants as values
use Rattle.point_kit.specs.declared.cell.Held.{Held}
use Rattle.point_kit.specs.declared.cell.Held.TheVariants.{One, Conflict}
use Rattle.point_kit.specs.declared.export.Export.{Export}
use Rattle.point_kit.specs.declared.export_point.ExportPoint.{ExportPoint}
use Rattle.point_kit.specs.declared.payload.Payload.{Payload}
use Rattle.point_kit.specs.declared.payload.Payload.TheVariants as payloads
use Rattle.point_kit.specs.declared.shape.Shape.{Shape}
use Rattle.point_kit.specs.declared.shape.Shape.TheVariants as shapes
use Rattle.point_kit.specs.declared.stream.Stream.{Stream}
use Rattle.bytes_kit.specs.Messages.{Entry, fields_of_message}
use Rattle.bytes_kit.specs.Past.{is_short, shareable, is_last}
use Rattle.bytes_kit.specs.declared.carried.Carried.{Carried}
use Rattle.bytes_kit.specs.declared.carried.Carried.TheVariants as bodies

-- the bytes of a long text; others count as part of what has them
abbrev pub text_weight : List ℕ → ℕ
text_weight t = if is_short t then 0 else length t

-- one for each of a list, and what each has
abbrev pub list_weight : {A : Type 0} → (A → ℕ) → List A → ℕ
list_weight weight [] = 0
list_weight weight (x ∷ xs) = (1 + weight x) + list_weight weight xs

abbrev pub value_weight : AttrValue → ℕ
value_weight (values.Text t) = text_weight t
value_weight (values.Truth b) = 0
value_weight (values.Whole n) = 0

abbrev pub pair_weight : List ℕ × AttrValue → ℕ
pair_weight p = text_weight p.0 + value_weight p.1

abbrev pub shape_weight : Shape → ℕ
shape_weight (shapes.Sum monotonic) = 0
shape_weight shapes.Gauge = 0
shape_weight (shapes.Histogram bounds) = length bounds

abbrev pub stream_weight : Stream → ℕ
stream_weight s = text_weight s.scope + (text_weight s.name + (text_weight s.unit + shape_weight s.shape))

abbrev pub payload_weight : Payload → ℕ
payload_weight (payloads.Sum n) = 0
payload_weight (payloads.Gauge n) = 0
payload_weight (payloads.Hist count sum buckets range) = length buckets

-- a stream that is the last, and light, is held with the point before
abbrev pub held_stream_weight : Bool → Stream → ℕ
held_stream_weight true s = 0
held_stream_weight false s = 1 + stream_weight s

abbrev pub point_weight : Option Stream → ExportPoint → ℕ
point_weight last x = held_stream_weight (is_last last x.stream) x.stream + (list_weight pair_weight x.attrs + payload_weight x.payload)

abbrev pub points_weight : Option Stream → List ExportPoint → ℕ
points_weight last [] = 0
points_weight last (x ∷ xs) = (1 + point_weight last x) + points_weight (shareable x.stream) xs

abbrev pub export_weight : Export → ℕ
export_weight e = text_weight e.writer.service + points_weight None e.points

abbrev pub held_weight : Held Payload → ℕ
held_weight (One p) = payload_weight p
held_weight Conflict = 0

-- a cell holds a writer and a stream of its own
abbrev pub entry_weight : Entry → ℕ
entry_weight e = (text_weight e.0.writer.service + stream_weight e.0.stream) + (list_weight pair_weight e.0.attrs + held_weight e.1.held)

abbrev pub carried_weight : Carried → ℕ
carried_weight (bodies.Whole es) = list_weight entry_weight es
carried_weight (bodies.Delta number es) = list_weight entry_weight es
carried_weight (bodies.Ack number) = 0

abbrev pub message_weight : MessageModel → ℕ
message_weight m = carried_weight (fields_of_message m).2
