-- From the least to the greatest of a histogram's values.
use Rattle.std.specs.Prelude.{ℕ, ℤ, ◌==◌, if◌then◌else◌, Option, Some, None}
use Rattle.std.specs.Int.{int_min, int_max}
use Rattle.rollup_kit.specs.declared.extent.Extent.{Extent}
use Rattle.rollup_kit.specs.declared.extent.Extent.TheVariants.{Empty, Known, Unknown}

-- where a point that has values tells their range, it is known
abbrev pub span_of_range : Option (ℤ × ℤ) → Extent
span_of_range (Some range) = Known range.0 range.1
span_of_range None = Unknown

-- the values of a point: none where its count is 0
abbrev pub span_of : ℕ → Option (ℤ × ℤ) → Extent
span_of count range = if count == 0 then Empty else span_of_range range

-- the values of both: unknown where those of one are
abbrev pub join_spans : Extent → Extent → Extent
join_spans Empty span = span
join_spans (Known least greatest) Empty = Known least greatest
join_spans (Known least greatest) (Known low high) = Known (int_min least low) (int_max greatest high)
join_spans (Known least greatest) Unknown = Unknown
join_spans Unknown span = Unknown

-- the range, where it is known
abbrev pub range_of : Extent → Option (ℤ × ℤ)
range_of Empty = None
range_of (Known least greatest) = Some (least, greatest)
range_of Unknown = None
