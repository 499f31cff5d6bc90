-- Metrics: a name, a unit and a kind, whatever the scopes, services and bounds. The names of their families.
use Rattle.std.specs.Prelude.{ℕ, ◌==◌, ◌||◌, ◌&&◌, not, nat_eq, if◌then◌else◌, Bool, true, false, List, [], ◌∷◌, ◌++◌, length, map, codes}
use Rattle.std.specs.List.{ends_with}
use Rattle.point_kit.specs.declared.shape.Shape.{Shape}
use Rattle.point_kit.specs.declared.shape.Shape.TheVariants as shapes
use Rattle.point_kit.specs.declared.stream.Stream.{Stream}
use Rattle.page_kit.specs.Names.{mark, line, led, without_suffix, has_part}
use Rattle.page_kit.specs.Units.{unit_name}
use Rattle.page_kit.specs.declared.metric.Kind.{Kind}
use Rattle.page_kit.specs.declared.metric.Kind.TheVariants.{Updown, Counter, Gauge, Histogram}
use Rattle.page_kit.specs.declared.metric.Metric.{Metric}

abbrev pub kind_of : Shape → Kind
kind_of (shapes.Sum true) = Counter
kind_of (shapes.Sum false) = Updown
kind_of shapes.Gauge = Gauge
kind_of (shapes.Histogram bounds) = Histogram

abbrev pub metric_of : Stream → Metric
metric_of s = record { name = s.name; unit = s.unit; kind = kind_of s.shape }

abbrev pub kind_name : Kind → List ℕ
kind_name Updown = codes "updown"
kind_name Counter = codes "counter"
kind_name Gauge = codes "gauge"
kind_name Histogram = codes "histogram"

-- the type of a family
abbrev pub family_type : Kind → List ℕ
family_type Updown = codes "gauge"
family_type Counter = codes "counter"
family_type Gauge = codes "gauge"
family_type Histogram = codes "histogram"

-- a name of a family's, without the ending that its samples have
abbrev pub without_total : Kind → List ℕ → List ℕ
without_total Updown name = name
without_total Counter name = without_suffix (codes "_total") name
without_total Gauge name = name
without_total Histogram name = name

unfoldable pub stem : Metric → List ℕ
stem m = without_total m.kind (without_suffix (mark ∷ []) (led (codes "metric") (line m.name)))

abbrev pub unit_of : Metric → List ℕ
unit_of m = unit_name m.unit m.kind

-- words stand in a name, with a `_` or an end of it at either side
unfoldable pub has_words : List ℕ → List ℕ → Bool
has_words words name = has_part (mark ∷ words ++ mark ∷ []) (mark ∷ name ++ mark ∷ [])

-- a name with a unit behind it, unless it has it
unfoldable pub with_unit : List ℕ → List ℕ → List ℕ
with_unit name unit = if (length unit == 0) || has_words unit name then name else name ++ mark ∷ unit

-- the name of a metric's family
unfoldable pub family : Metric → List ℕ
family m = with_unit (stem m) (unit_of m)

-- a family's name ends with a unit
unfoldable pub ends_with_unit : List ℕ → List ℕ → Bool
ends_with_unit name unit = not (length unit == 0) && ends_with nat_eq name (mark ∷ unit)

-- what the names that a metric claims end with, behind its family's
abbrev pub endings : Kind → List (List ℕ)
endings Updown = [] ∷ []
endings Counter = [] ∷ codes "_total" ∷ codes "_created" ∷ []
endings Gauge = [] ∷ []
endings Histogram = [] ∷ codes "_bucket" ∷ codes "_count" ∷ codes "_created" ∷ codes "_sum" ∷ []

abbrev pub claims : Metric → List (List ℕ)
claims m = map (λ ending. family m ++ ending) (endings m.kind)
