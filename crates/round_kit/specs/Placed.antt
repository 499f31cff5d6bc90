-- What lies in an arena, as the values that it stands for.
use Rattle.std.specs.Prelude.{ℕ, List, Option, Some, None, map}
use Rattle.std.specs.List.{zip}
use Rattle.std.specs.Borrow.{Bor}
use Rattle.attr_kit.specs.declared.attr_value.AttrValue.{AttrValue}
use Rattle.attr_kit.specs.declared.attr_value.AttrValue.TheVariants as values
use Rattle.point_kit.specs.declared.payload.Payload.{Payload}
use Rattle.point_kit.specs.declared.payload.Payload.TheVariants as payloads
use Rattle.point_kit.specs.declared.shape.Shape.{Shape}
use Rattle.point_kit.specs.declared.shape.Shape.TheVariants as shapes
use Rattle.point_kit.specs.declared.stream.Stream.{Stream}
use Rattle.round_kit.specs.declared.payload.RoundPayload.{RoundPayload}
use Rattle.round_kit.specs.declared.payload.RoundPayload.TheVariants as placed_payload
use Rattle.round_kit.specs.declared.set.RoundValue.{RoundValue}
use Rattle.round_kit.specs.declared.set.RoundValue.TheVariants as placed_value
use Rattle.round_kit.specs.declared.stream.RoundShape.{RoundShape}
use Rattle.round_kit.specs.declared.stream.RoundShape.TheVariants as placed_shape
use Rattle.round_kit.specs.declared.stream.RoundStream.{RoundStream}

abbrev pub value_of : RoundValue → AttrValue
value_of (placed_value.Short t) = values.Text t
value_of (placed_value.Long t) = values.Text t.now
value_of (placed_value.Truth b) = values.Truth b
value_of (placed_value.Whole n) = values.Whole n

-- the text of a value that is one
abbrev pub text_of : AttrValue → Option (List ℕ)
text_of (values.Text t) = Some t
text_of (values.Truth b) = None
text_of (values.Whole n) = None

-- each key beside its value
abbrev pub pairs_of : List (Bor (List ℕ)) → List RoundValue → List (List ℕ × AttrValue)
pairs_of keys values = zip (map (λ key. key.now) keys) (map value_of values)

abbrev pub shape_of : RoundShape → Shape
shape_of (placed_shape.Sum monotonic) = shapes.Sum monotonic
shape_of placed_shape.Gauge = shapes.Gauge
shape_of (placed_shape.Histogram bounds) = shapes.Histogram bounds.now

abbrev pub stream_of : RoundStream → Stream
stream_of s = record { scope = s.scope.now; name = s.name.now; unit = s.unit.now; shape = shape_of s.shape }

abbrev pub payload_of : RoundPayload → Payload
payload_of (placed_payload.Sum n) = payloads.Sum n
payload_of (placed_payload.Gauge v) = payloads.Gauge v
payload_of (placed_payload.Hist h) = payloads.Hist h.now.count h.now.sum h.now.buckets.now h.now.range
