-- The orders of writers, shapes, streams and keys: each goes by its parts from left to right.
use Rattle.std.specs.Prelude.{◌≡◌, ℕ, ℤ, ◌<◌, true, false, List, [], All, length}
use Rattle.std.specs.Cmp.Lexicographic.{slice_cmp}
use Rattle.std.specs.Int.{from_be_bytes, w128}
use Rattle.std.specs.Ordering.{nat_cmp, int_cmp, ordering_then}
use Rattle.std.specs.declared.cmp.Ordering.{Ordering}
use Rattle.attr_kit.specs.Orders.{text_cmp, set_cmp}
use Rattle.point_kit.specs.declared.key.Key.{Key}
use Rattle.point_kit.specs.declared.shape.Shape.{Shape}
use Rattle.point_kit.specs.declared.shape.Shape.TheVariants as shapes
use Rattle.point_kit.specs.declared.stream.Stream.{Stream}
use Rattle.point_kit.specs.declared.writer_id.WriterId.{WriterId}
use Rattle.point_kit.specs.contracts.key.KeyOrd.TheImpl as keys

-- the order that `cmp` of keys computes
abbrev pub key_cmp : Key → Key → Ordering
key_cmp = (keys.ghosts).cmp

-- by service, then by instance: its sixteen bytes, the first being the highest
abbrev pub writer_order : WriterId → WriterId → Ordering
writer_order v w = ordering_then (text_cmp v.service w.service) (slice_cmp nat_cmp v.instance w.instance)

-- sums that may fall, sums that only rise, gauges, histograms
abbrev pub shape_rank : Shape → ℕ
shape_rank (shapes.Sum false) = 0
shape_rank (shapes.Sum true) = 1
shape_rank shapes.Gauge = 2
shape_rank (shapes.Histogram b) = 3

abbrev pub bounds_of : Shape → List ℤ
bounds_of (shapes.Sum m) = []
bounds_of shapes.Gauge = []
bounds_of (shapes.Histogram b) = b

-- by rank, and histograms by their bounds, a proper prefix being less
abbrev pub shape_order : Shape → Shape → Ordering
shape_order s t = ordering_then (nat_cmp (shape_rank s) (shape_rank t)) (slice_cmp int_cmp (bounds_of s) (bounds_of t))

-- by scope, name, unit, shape
abbrev pub stream_order : Stream → Stream → Ordering
stream_order s t =
    ordering_then (text_cmp s.scope t.scope)
    (ordering_then (text_cmp s.name t.name) (ordering_then (text_cmp s.unit t.unit) (shape_order s.shape t.shape)))

-- by writer, start, stream, attributes
abbrev pub key_order : Key → Key → Ordering
key_order k l =
    ordering_then (writer_order k.writer l.writer)
    (ordering_then (nat_cmp k.start l.start) (ordering_then (stream_order k.stream l.stream) (set_cmp k.attrs l.attrs)))

-- sixteen bytes, as every instance id is
pub record IsInstance (id : List ℕ) : Type 0 where
  pub long : length id ≡ 16
  pub bytes : All (λ b. b < 256) id

-- an instance id as one number
abbrev pub instance_number : List ℕ → ℕ
instance_number = from_be_bytes w128

-- the order of instance ids is that of their numbers
abbrev pub ByNumber : Type 0
ByNumber = (a b : List ℕ) → IsInstance a → IsInstance b → slice_cmp nat_cmp a b ≡ nat_cmp (instance_number a) (instance_number b)
