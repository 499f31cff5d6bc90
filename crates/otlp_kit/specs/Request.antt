-- The request that brings an export: an ExportMetricsServiceRequest of opentelemetry-proto.
use Rattle.std.specs.Prelude.{ℕ, ℤ, nat_eq, ◌∷◌, Bool, true, false, if◌then◌else◌, List, [], ◌++◌, Option, Some, None, codes}
use Rattle.std.specs.Int.{cast_unsigned, w64}
use Rattle.std.specs.List.{flat_map}
use Rattle.attr_kit.specs.declared.attr_value.AttrValue.{AttrValue}
use Rattle.attr_kit.specs.declared.attr_value.AttrValue.TheVariants as values
use Rattle.std.specs.Cmp.Lexicographic.{pointwise}
use Rattle.point_kit.specs.Orders.{bounds_of}
use Rattle.point_kit.specs.contracts.stream.StreamPartialEq.TheImpl as streams
use Rattle.point_kit.specs.declared.export.Export.{Export}
use Rattle.point_kit.specs.declared.export_point.ExportPoint.{ExportPoint}
use Rattle.point_kit.specs.declared.payload.Payload.{Payload}
use Rattle.point_kit.specs.declared.payload.Payload.TheVariants as payloads
use Rattle.point_kit.specs.declared.shape.Shape.{Shape}
use Rattle.point_kit.specs.declared.shape.Shape.TheVariants as shapes
use Rattle.point_kit.specs.declared.stream.Stream.{Stream}
use Rattle.point_kit.specs.declared.writer_id.WriterId.{WriterId}
use Rattle.otlp_kit.specs.Doubles.{double}
use Rattle.otlp_kit.specs.Runs.{runs}
use Rattle.otlp_kit.specs.Wire.{block, number, eight, fixed, text_unless_empty, fixed_unless_zero}
use Rattle.uuid.specs.Text.{hyphenated_text, lower}

-- AnyValue: string_value, bool_value, int_value
abbrev pub any_value : AttrValue → List ℕ
any_value (values.Text t) = block 1 t
any_value (values.Truth b) = number 2 (if b then 1 else 0)
any_value (values.Whole n) = number 3 (cast_unsigned w64 n)

-- KeyValue: key, value
unfoldable pub key_value : List ℕ × AttrValue → List ℕ
key_value p = block 1 p.0 ++ block 2 (any_value p.1)

abbrev pub attribute : ℕ → List ℕ × AttrValue → List ℕ
attribute field p = block field (key_value p)

unfoldable pub attributes : ℕ → List (List ℕ × AttrValue) → List ℕ
attributes field ps = flat_map (attribute field) ps

-- Resource: the writer, as two attributes, in the order of their keys
abbrev pub instance : WriterId → List ℕ × AttrValue
instance w = (codes "service.instance.id", values.Text (hyphenated_text lower w.instance))

abbrev pub service : WriterId → List ℕ × AttrValue
service w = (codes "service.name", values.Text w.service)

unfoldable pub resource : WriterId → List ℕ
resource w = attribute 1 (instance w) ++ attribute 1 (service w)

-- start_time_unix_nano and time_unix_nano of a point
unfoldable pub window : ℕ → ℕ → List ℕ
window start time = fixed_unless_zero 2 start ++ fixed_unless_zero 3 time

-- NumberDataPoint: its window, as_int, attributes
unfoldable pub number_point : ℕ → ℕ → ℤ → List (List ℕ × AttrValue) → List ℕ
number_point start time value attrs = window start time ++ (fixed 6 (cast_unsigned w64 value) ++ attributes 7 attrs)

-- explicit_bounds
unfoldable pub explicit_bounds : List ℤ → List ℕ
explicit_bounds [] = []
explicit_bounds (b ∷ bs) = block 7 (flat_map (λ z. eight (double z)) (b ∷ bs))

-- min and max
unfoldable pub range_fields : Option (ℤ × ℤ) → List ℕ
range_fields None = []
range_fields (Some range) = fixed 11 (double range.0) ++ fixed 12 (double range.1)

-- count, sum, bucket_counts
unfoldable pub counts : ℕ → ℤ → List ℕ → List ℕ
counts count sum buckets = fixed_unless_zero 4 count ++ (fixed 5 (double sum) ++ block 6 (flat_map eight buckets))

-- NumberDataPoint, or HistogramDataPoint: its window, counts, explicit_bounds, attributes, range
abbrev pub point_fields : ℕ → ℕ → List (List ℕ × AttrValue) → List ℤ → Payload → List ℕ
point_fields start time attrs bounds (payloads.Sum value) = number_point start time value attrs
point_fields start time attrs bounds (payloads.Gauge value) = number_point start time value attrs
point_fields start time attrs bounds (payloads.Hist count sum buckets range) =
    window start time ++ (counts count sum buckets ++ (explicit_bounds bounds ++ (attributes 9 attrs ++ range_fields range)))

abbrev pub fields_of : ℕ → ℕ → ExportPoint → List ℕ
fields_of start time p = point_fields start time p.attrs (bounds_of p.stream.shape) p.payload

-- data_points
unfoldable pub point : ℕ → ℕ → ExportPoint → List ℕ
point start time p = block 1 (fields_of start time p)

abbrev pub points_of : ℕ → ℕ → List ExportPoint → List ℕ
points_of start time ps = flat_map (point start time) ps

-- aggregation_temporality: cumulative
abbrev pub cumulative : List ℕ
cumulative = number 2 2

abbrev pub is_monotonic : Bool → List ℕ
is_monotonic true = number 3 1
is_monotonic false = []

-- Sum, of these points: data_points, aggregation_temporality, is_monotonic
abbrev pub sum_fields : Bool → List ℕ → List ℕ
sum_fields monotonic points = points ++ (cumulative ++ is_monotonic monotonic)

-- Histogram: data_points, aggregation_temporality
abbrev pub histogram_fields : List ℕ → List ℕ
histogram_fields points = points ++ cumulative

-- gauge, sum or histogram, of these points
unfoldable pub metric_data : Shape → List ℕ → List ℕ
metric_data shapes.Gauge points = block 5 points
metric_data (shapes.Sum monotonic) points = block 7 (sum_fields monotonic points)
metric_data (shapes.Histogram bounds) points = block 9 (histogram_fields points)

-- name, unit and data of a Metric
unfoldable pub metric_fields : ℕ → ℕ → Stream → List ExportPoint → List ℕ
metric_fields start time s ps =
    text_unless_empty 1 s.name ++ (text_unless_empty 3 s.unit ++ metric_data s.shape (points_of start time ps))

-- Metric, of points of one stream
unfoldable pub metric : ℕ → ℕ → List ExportPoint → List ℕ
metric start time [] = []
metric start time (p ∷ ps) = block 2 (metric_fields start time p.stream (p ∷ ps))

abbrev pub of_one_stream : ExportPoint → ExportPoint → Bool
of_one_stream p q = (streams.ghosts).eq p.stream q.stream

unfoldable pub metrics : ℕ → ℕ → List ExportPoint → List ℕ
metrics start time ps = flat_map (metric start time) (runs of_one_stream ps)

-- scope and metrics of a ScopeMetrics
unfoldable pub scope_fields : ℕ → ℕ → List ℕ → List ExportPoint → List ℕ
scope_fields start time scope ps = block 1 (text_unless_empty 1 scope) ++ metrics start time ps

-- ScopeMetrics, of points of one scope
unfoldable pub scope_metrics : ℕ → ℕ → List ExportPoint → List ℕ
scope_metrics start time [] = []
scope_metrics start time (p ∷ ps) = block 2 (scope_fields start time p.stream.scope (p ∷ ps))

abbrev pub of_one_scope : ExportPoint → ExportPoint → Bool
of_one_scope p q = pointwise nat_eq p.stream.scope q.stream.scope

unfoldable pub scopes : ℕ → ℕ → List ExportPoint → List ℕ
scopes start time ps = flat_map (scope_metrics start time) (runs of_one_scope ps)

-- ResourceMetrics: resource, scope_metrics
unfoldable pub resource_metrics : Export → List ℕ
resource_metrics e = block 1 (resource e.writer) ++ scopes e.start e.time e.points

-- ExportMetricsServiceRequest: one resource_metrics
unfoldable pub request : Export → List ℕ
request e = block 1 (resource_metrics e)
