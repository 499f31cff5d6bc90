-- The rows of a family.
use Rattle.std.specs.Prelude.{ℕ, ℤ, pos, ◌-◌, ◌^◌, ◌==◌, ◌&&◌, nat_lt, int_lt, if◌then◌else◌, List, [], ◌∷◌, ◌++◌, length, codes, Option, Some, None}
use Rattle.std.specs.Fmt.{decimal, signed_decimal}
use Rattle.std.specs.List.{flat_map, list_any}
use Rattle.page_kit.specs.Bounds.{service_bounds, values_up_to}
use Rattle.page_kit.specs.Families.{Measured}
use Rattle.page_kit.specs.Groups.{keyed, groups}
use Rattle.page_kit.specs.Labels.{labels_cmp, row_labels}
use Rattle.page_kit.specs.Lines.{sample, metadata, help_of}
use Rattle.page_kit.specs.Metrics.{family, unit_of}
use Rattle.page_kit.specs.Totals.{KeyedCell, is_conflict, sum_of, count_of, newest_of}
use Rattle.page_kit.specs.declared.labels.Label.{Label}
use Rattle.page_kit.specs.declared.metric.Kind.{Kind}
use Rattle.page_kit.specs.declared.metric.Kind.TheVariants.{Updown, Counter, Gauge, Histogram}
use Rattle.page_kit.specs.declared.text.Format.{Format}

-- digits without zeros at the end
abbrev pub before_zeros : ℕ → List ℕ → List ℕ
before_zeros d [] = if d == 48 then [] else d ∷ []
before_zeros d (e ∷ es) = d ∷ e ∷ es

abbrev pub without_zeros : List ℕ → List ℕ
without_zeros [] = []
without_zeros (d ∷ ds) = before_zeros d (without_zeros ds)

-- what stands behind the digit at a place of so many
abbrev pub point_behind : ℕ → ℕ → List ℕ
point_behind place len = if (place == 0) && nat_lt 1 len then codes "." else []

-- the first digit, and the others behind a point
abbrev pub mantissa : List ℕ → List ℕ
mantissa [] = []
mantissa (d ∷ []) = d ∷ []
mantissa (d ∷ e ∷ es) = d ∷ 46 ∷ e ∷ es

-- in at least two digits
abbrev pub two_digits : ℕ → List ℕ
two_digits n = if nat_lt n 10 then 48 ∷ decimal n else decimal n

unfoldable pub scientific : List ℕ → List ℕ
scientific digits = mantissa (without_zeros digits) ++ (codes "e+" ++ two_digits (length digits - 1))

-- a bound as `le` has it, after "Canonical Numbers" of OpenMetrics
unfoldable pub bound_text : ℤ → List ℕ
bound_text bound = if int_lt bound (pos (10 ^ 6)) then signed_decimal bound ++ codes ".0" else scientific (signed_decimal bound)

abbrev pub le : List ℕ → Label
le text = record { name = codes "le"; value = text }

-- a bucket of a row: how many values are not above its bound
unfoldable pub bucket : List ℕ → List Label → List ℕ → ℕ → List ℕ
bucket name labels bound count = sample (name ++ codes "_bucket") (labels ++ le bound ∷ []) (decimal count)

-- the samples of a histogram's row
unfoldable pub histogram : List ℕ → List Label → List ℤ → List KeyedCell → List ℕ
histogram name labels bounds cells =
    flat_map (λ bound. bucket name labels (bound_text bound) (values_up_to bound cells)) bounds
    ++ (bucket name labels (codes "+Inf") (count_of cells)
    ++ (sample (name ++ codes "_sum") labels (signed_decimal (sum_of cells))
    ++ sample (name ++ codes "_count") labels (decimal (count_of cells))))

-- that of a gauge's
abbrev pub gauge : List ℕ → List Label → Option ℤ → List ℕ
gauge name labels (Some value) = sample name labels (signed_decimal value)
gauge name labels None = []

-- the bounds of a row: those that all cells of its metric and its service have
abbrev pub row_bounds : List KeyedCell → List KeyedCell → List ℤ
row_bounds all [] = []
row_bounds all (e ∷ es) = service_bounds all e.0.writer.service

-- the samples of a row, by kind; `all` are the cells of its metric
abbrev pub samples : Kind → List ℕ → List KeyedCell → List Label → List KeyedCell → List ℕ
samples Updown name all labels cells = sample name labels (signed_decimal (sum_of cells))
samples Counter name all labels cells = sample (name ++ codes "_total") labels (signed_decimal (sum_of cells))
samples Gauge name all labels cells = gauge name labels (newest_of cells)
samples Histogram name all labels cells = histogram name labels (row_bounds all cells) cells

-- a row; one in which some key holds a conflict is not shown
unfoldable pub row : Kind → List ℕ → List KeyedCell → List Label × List KeyedCell → List ℕ
row kind name all r = if list_any is_conflict r.1 then [] else samples kind name all r.0 r.1

-- the rows of a family: the keys that have equal labels, in the order of the labels
unfoldable pub rows : List KeyedCell → List (List Label × List KeyedCell)
rows cells = groups labels_cmp (keyed (λ (e : KeyedCell). row_labels e.0) cells)

-- the text of a family of this name
unfoldable pub named_text : Format → List ℕ → Measured → List ℕ
named_text format name m = metadata format name m.0.kind (unit_of m.0) (help_of m.0) ++ flat_map (row m.0.kind name m.1) (rows m.1)

-- that of a metric's family
unfoldable pub family_text : Format → Measured → List ℕ
family_text format m = named_text format (family m.0) m
