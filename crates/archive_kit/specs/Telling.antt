-- What points tell that adds up: totals, how many values, and how many in each bucket.
use Rattle.std.specs.Prelude.{ℕ, ℤ, pos, Bool, List, slice_index}
use Rattle.attr_kit.specs.declared.attr_set.AttrSet.{AttrSet}
use Rattle.point_kit.specs.declared.export_point.ExportPoint.{ExportPoint}
use Rattle.point_kit.specs.declared.payload.Payload.{Payload}
use Rattle.point_kit.specs.declared.payload.Payload.TheVariants.{Sum, Gauge, Hist}
use Rattle.point_kit.specs.declared.stream.Stream.{Stream}
use Rattle.schedule_kit.specs.Totals.{total_where}

-- a sum, or that of a histogram's values; a gauge tells nothing that adds up
abbrev pub sum_told : Payload → ℤ
sum_told (Sum a) = a
sum_told (Gauge v) = pos 0
sum_told (Hist c s l r) = s

-- how many values a histogram has
abbrev pub count_told : Payload → ℕ
count_told (Sum a) = 0
count_told (Gauge v) = 0
count_told (Hist c s l r) = c

-- how many of them are in the bucket at a place
abbrev pub bucket_told : ℕ → Payload → ℕ
bucket_told place (Sum a) = 0
bucket_told place (Gauge v) = 0
bucket_told place (Hist c s l r) = slice_index l place

-- what the points tell whose streams and sets are asked for, added up
abbrev pub told_by : {V : Type 0} → V → (V → V → V) → (Payload → V) → (Stream → AttrSet → Bool) → List ExportPoint → V
told_by zero plus reads asks points = total_where zero plus (λ p. asks p.stream p.attrs) (λ p. reads p.payload) points
