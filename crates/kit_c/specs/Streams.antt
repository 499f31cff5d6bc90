-- Streams, read by numbers.
use Rattle.std.specs.Prelude.{ℕ, ℤ, ◌==◌, cond, nat_le, true, false, List, [], ◌∷◌, fold, Option}
use Rattle.attr_kit.specs.Refusing.{first, when}
use Rattle.indexmap.specs.IndexSet.{insert_key}
use Rattle.point_kit.specs.declared.export.Export.{Export}
use Rattle.point_kit.specs.declared.export_point.ExportPoint.{ExportPoint}
use Rattle.point_kit.specs.declared.shape.Shape.{Shape}
use Rattle.point_kit.specs.declared.shape.Shape.TheVariants as shapes
use Rattle.point_kit.specs.declared.stream.Stream.{Stream}
use Rattle.rollup_kit.specs.Streams.{stream_eq}
use Rattle.kit_c.specs.Items.{item_fault}
use Rattle.kit_c.specs.declared.fault.Fault.{Fault}
use Rattle.kit_c.specs.declared.fault.Fault.TheVariants as faults

-- a text of a stream: 0 its scope, 1 its name, 2 its unit
abbrev pub text_part : ℕ → Stream → List ℕ
text_part n s = cond (n == 0) s.scope (cond (n == 1) s.name s.unit)

-- there is no stream, or the number stands for no text
abbrev pub part_fault : ℕ → ℕ → List Stream → Option Fault
part_fault number part ss = first (item_fault number ss ∷ when (nat_le 3 part) faults.BadNumber ∷ [])

-- the number of a shape: 0 a sum that only rises, 1 a sum, 2 a gauge, 3 a histogram
abbrev pub shape_number : Shape → ℕ
shape_number (shapes.Sum true) = 0
shape_number (shapes.Sum false) = 1
shape_number shapes.Gauge = 2
shape_number (shapes.Histogram bounds) = 3

-- the bounds of a histogram, else none
abbrev pub bounds_of : Shape → List ℤ
bounds_of (shapes.Histogram bounds) = bounds
bounds_of other = []

-- streams, and those of an export's points behind them, each once
abbrev pub with_brought : List Stream → List ExportPoint → List Stream
with_brought ss ps = fold (λ seen p. insert_key stream_eq seen p.stream) ss ps

-- those of all its points
abbrev pub streams_brought : Export → List Stream
streams_brought e = with_brought [] e.points
