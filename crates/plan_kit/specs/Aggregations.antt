-- What the aggregations make of the kinds of instruments.
use Rattle.std.specs.Prelude.{Bool, true, false, not}
use Rattle.point_kit.specs.declared.shape.Shape.TheVariants.{Sum, Gauge, Histogram}
use Rattle.plan_kit.specs.declared.instrument.Kind.{Kind}
use Rattle.plan_kit.specs.declared.instrument.Kind.TheVariants as kinds
use Rattle.plan_kit.specs.declared.view.Aggregation.{Aggregation}
use Rattle.plan_kit.specs.declared.view.Aggregation.TheVariants as ways
use Rattle.plan_kit.specs.declared.fit.Fit.{Fit}
use Rattle.plan_kit.specs.declared.fit.Fit.TheVariants.{Stream, Nothing, Refused}
use Rattle.plan_kit.specs.Bounds.{default_bounds, are_bounds}

-- what an aggregation makes of an instrument of a kind: a stream of a shape, nothing, or it is refused
abbrev pub fit : Kind → Aggregation → Fit
fit kinds.Counter ways.Default = Stream (Sum true)
fit kinds.Counter ways.Sum = Stream (Sum true)
fit kinds.Counter (ways.Buckets bounds) = Stream (Histogram bounds)
fit kinds.UpDown ways.Default = Stream (Sum false)
fit kinds.UpDown ways.Sum = Stream (Sum false)
fit kinds.Gauge ways.Default = Stream Gauge
fit kinds.Gauge ways.LastValue = Stream Gauge
fit kinds.Histogram ways.Default = Stream (Histogram default_bounds)
fit kinds.Histogram ways.Sum = Stream (Sum true)
fit kinds.Histogram (ways.Buckets bounds) = Stream (Histogram bounds)
fit kind ways.Drop = Nothing
fit kind way = Refused

abbrev pub is_refusal : Fit → Bool
is_refusal Refused = true
is_refusal other = false

-- the aggregation does not fit the kind
abbrev pub is_refused : Kind → Aggregation → Bool
is_refused kind way = is_refusal (fit kind way)

-- buckets are asked for whose bounds are none
abbrev pub has_bad_bounds : Aggregation → Bool
has_bad_bounds (ways.Buckets bounds) = not (are_bounds bounds)
has_bad_bounds way = false
