-- That `cmp` computes the orders of Orders.
use Rattle.std.specs.Prelude.{◌≡◌, true, false, refl}
use Rattle.std.proofs.Common.{ap}
use Rattle.std.specs.Ordering.{nat_cmp, ordering_then}
use Rattle.point_kit.specs.Orders.{key_cmp, writer_order, shape_order, stream_order, key_order}
use Rattle.point_kit.specs.declared.key.Key.{Key}
use Rattle.point_kit.specs.declared.shape.Shape.{Shape}
use Rattle.point_kit.specs.declared.shape.Shape.TheVariants.{Sum, Gauge, Histogram}
use Rattle.point_kit.specs.declared.stream.Stream.{Stream}
use Rattle.point_kit.specs.declared.writer_id.WriterId.{WriterId}
use Rattle.attr_kit.specs.Orders.{text_cmp, set_cmp}
use Rattle.point_kit.specs.contracts.shape.ShapeOrd.TheImpl as shapes
use Rattle.point_kit.specs.contracts.stream.StreamOrd.TheImpl as streams
use Rattle.point_kit.specs.contracts.writer_id.WriterIdOrd.TheImpl as writers

pub writers_ordered : (v w : WriterId) → (writers.ghosts).cmp v w ≡ writer_order v w
writers_ordered v w = refl

pub shapes_ordered : (a b : Shape) → (shapes.ghosts).cmp a b ≡ shape_order a b
shapes_ordered (Sum false) (Sum false) = refl
shapes_ordered (Sum false) (Sum true) = refl
shapes_ordered (Sum true) (Sum false) = refl
shapes_ordered (Sum true) (Sum true) = refl
shapes_ordered (Sum false) Gauge = refl
shapes_ordered (Sum true) Gauge = refl
shapes_ordered (Sum false) (Histogram b) = refl
shapes_ordered (Sum true) (Histogram b) = refl
shapes_ordered Gauge (Sum false) = refl
shapes_ordered Gauge (Sum true) = refl
shapes_ordered Gauge Gauge = refl
shapes_ordered Gauge (Histogram b) = refl
shapes_ordered (Histogram b) (Sum false) = refl
shapes_ordered (Histogram b) (Sum true) = refl
shapes_ordered (Histogram b) Gauge = refl
shapes_ordered (Histogram b) (Histogram c) = refl

pub streams_ordered : (s t : Stream) → (streams.ghosts).cmp s t ≡ stream_order s t
streams_ordered s t = ap (λ o. ordering_then (text_cmp s.scope t.scope) (ordering_then (text_cmp s.name t.name) (ordering_then (text_cmp s.unit t.unit) o))) (shapes_ordered s.shape t.shape)

pub keys_ordered : (k l : Key) → key_cmp k l ≡ key_order k l
keys_ordered k l = ap (λ o. ordering_then (writer_order k.writer l.writer) (ordering_then (nat_cmp k.start l.start) (ordering_then o (set_cmp k.attrs l.attrs)))) (streams_ordered k.stream l.stream)
