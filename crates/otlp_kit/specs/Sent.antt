-- Which exports their requests give back.
use Rattle.std.specs.Prelude.{◌≡◌, ℕ, ◌<◌, ◌^◌, ℤ, unsigned_abs, FitsSigned, List, length, All, Option, Some, None}
use Rattle.std.specs.Int.{w64}
use Rattle.std.specs.List.{AllByRecursion}
use Rattle.std.specs.Str.{IsUtf8}
use Rattle.attr_kit.specs.Attributes.{AreAttributes}
use Rattle.attr_kit.specs.declared.attr_value.AttrValue.{AttrValue}
use Rattle.attr_kit.specs.declared.attr_value.AttrValue.TheVariants as values
use Rattle.point_kit.specs.declared.export.Export.{Export}
use Rattle.point_kit.specs.declared.export_point.ExportPoint.{ExportPoint}
use Rattle.point_kit.specs.declared.payload.Payload.{Payload}
use Rattle.point_kit.specs.declared.payload.Payload.TheVariants as payloads
use Rattle.point_kit.specs.declared.shape.Shape.{Shape}
use Rattle.point_kit.specs.declared.shape.Shape.TheVariants as shapes
use Rattle.point_kit.specs.declared.stream.Stream.{Stream}
use Rattle.point_kit.specs.declared.writer_id.WriterId.{WriterId}

-- ---- what the types ask of every export: numbers of 64 bits, texts in UTF-8, attributes in the order of their keys

abbrev pub IsNumber : ℕ → Type 0
IsNumber n = n < 2 ^ 64

abbrev pub IsInteger : ℤ → Type 0
IsInteger z = FitsSigned w64 z

abbrev pub IsValue : AttrValue → Type 0
IsValue (values.Text t) = IsUtf8 t
IsValue (values.Truth b) = Unit {0}
IsValue (values.Whole n) = IsInteger n

abbrev pub IsPair : List ℕ × AttrValue → Type 0
IsPair p = IsUtf8 p.0 × IsValue p.1

abbrev pub IsSet : List (List ℕ × AttrValue) → Type 0
IsSet ps = AllByRecursion IsPair ps × AreAttributes ps

abbrev pub IsPayload : Payload → Type 0
IsPayload (payloads.Sum n) = IsInteger n
IsPayload (payloads.Gauge n) = IsInteger n
IsPayload (payloads.Hist count sum buckets range) = IsNumber count × AllByRecursion IsNumber buckets

abbrev pub IsStream : Stream → Type 0
IsStream s = IsUtf8 s.scope × (IsUtf8 s.name × IsUtf8 s.unit)

abbrev pub IsPoint : ExportPoint → Type 0
IsPoint p = IsStream p.stream × (IsSet p.attrs × IsPayload p.payload)

-- a service, and an instance of sixteen bytes
pub record IsWriter (w : WriterId) : Type 0 where
  pub service : IsUtf8 w.service
  pub sixteen : length w.instance ≡ 16
  pub bytes : All (λ b. b < 256) w.instance

pub record IsExport (e : Export) : Type 0 where
  pub writer : IsWriter e.writer
  pub start : IsNumber e.start
  pub time : IsNumber e.time
  pub points : AllByRecursion IsPoint e.points

-- ---- what a request says without loss

-- a double says it, and no neighbour
abbrev pub IsExact : ℤ → Type 0
IsExact z = unsigned_abs z < 2 ^ 53

abbrev pub IsExactRange : Option (ℤ × ℤ) → Type 0
IsExactRange None = Unit {0}
IsExactRange (Some r) = IsExact r.0 × IsExact r.1

abbrev pub IsExactPayload : Payload → Type 0
IsExactPayload (payloads.Sum n) = Unit {0}
IsExactPayload (payloads.Gauge n) = Unit {0}
IsExactPayload (payloads.Hist count sum buckets range) = IsExact sum × IsExactRange range

-- only a gauge does without a start, and bounds are exact
abbrev pub IsExactStream : ℕ → Shape → Type 0
IsExactStream start shapes.Gauge = Unit {0}
IsExactStream start (shapes.Sum monotonic) = 0 < start
IsExactStream start (shapes.Histogram bounds) = (0 < start) × AllByRecursion IsExact bounds

-- an export without points is its resource alone
pub record IsSaid (e : Export) : Type 0 where
  pub some : 0 < length e.points
  pub points : AllByRecursion (λ p. IsExactStream e.start p.stream.shape × IsExactPayload p.payload) e.points
