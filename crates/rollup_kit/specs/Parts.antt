-- What points add up to, part by part.
use Rattle.std.specs.Prelude.{ℕ, ℤ, pos, ◌+◌, ◌+ℤ◌, ◌==◌, if◌then◌else◌, List, slice_index, count_by, int_lt}
use Rattle.point_kit.specs.declared.payload.Payload.{Payload}
use Rattle.point_kit.specs.declared.payload.Payload.TheVariants as payloads
use Rattle.point_kit.specs.declared.shape.Shape.{Shape}
use Rattle.point_kit.specs.declared.shape.Shape.TheVariants as shapes
use Rattle.rollup_kit.specs.declared.extent.Extent.{Extent}
use Rattle.rollup_kit.specs.declared.extent.Extent.TheVariants.{Empty, Known}
use Rattle.rollup_kit.specs.Extents.{span_of, join_spans}

-- a sum; and of histograms a count, the count of each bucket by its place, and from where to where the values go
pub record Parts : Type 0 where
  pub sum : ℤ
  pub count : ℕ
  pub buckets : ℕ → ℕ
  pub span : Extent

abbrev pub no_parts : Parts
no_parts = record { sum = pos 0; count = 0; buckets = λ _. 0; span = Empty }

abbrev pub plus_parts : Parts → Parts → Parts
plus_parts a b = record {
  sum = a.sum +ℤ b.sum;
  count = a.count + b.count;
  buckets = λ place. a.buckets place + b.buckets place;
  span = join_spans a.span b.span;
}

-- the parts of a payload
abbrev pub parts_of : Payload → Parts
parts_of (payloads.Sum sum) = record no_parts { sum = sum }
parts_of (payloads.Gauge value) = no_parts
parts_of (payloads.Hist count sum buckets range) = record { sum = sum; count = count; buckets = slice_index buckets; span = span_of count range }

-- the bucket of a value: how many bounds are below it
abbrev pub bucket_of : List ℤ → ℤ → ℕ
bucket_of bounds value = count_by (λ bound. int_lt bound value) bounds

-- the parts of one recorded value
abbrev pub parts_of_value : Shape → ℤ → Parts
parts_of_value (shapes.Sum monotonic) value = record no_parts { sum = value }
parts_of_value shapes.Gauge value = no_parts
parts_of_value (shapes.Histogram bounds) value = record {
  sum = value;
  count = 1;
  buckets = λ place. if bucket_of bounds value == place then 1 else 0;
  span = Known value value;
}
