-- Which values there are: numbers of 64 bits, texts in UTF-8, sets of attributes.
use Rattle.std.specs.Prelude.{◌≡◌, ℕ, ◌<◌, ◌^◌, ℤ, List, length, Some, None}
use Rattle.std.specs.List.{AllByRecursion}
use Rattle.std.specs.Str.{IsUtf8}
use Rattle.attr_kit.specs.Attributes.{AreAttributes}
use Rattle.attr_kit.specs.declared.attr_value.AttrValue.{AttrValue}
use Rattle.attr_kit.specs.declared.attr_value.AttrValue.TheVariants as values
use Rattle.point_kit.specs.declared.export.Export.{Export}
use Rattle.point_kit.specs.declared.export_point.ExportPoint.{ExportPoint}
use Rattle.point_kit.specs.declared.payload.Payload.{Payload}
use Rattle.point_kit.specs.declared.payload.Payload.TheVariants as payloads
use Rattle.point_kit.specs.declared.shape.Shape.{Shape}
use Rattle.point_kit.specs.declared.shape.Shape.TheVariants as shapes
use Rattle.point_kit.specs.declared.stream.Stream.{Stream}
use Rattle.point_kit.specs.declared.writer_id.WriterId.{WriterId}
use Rattle.bytes_kit.specs.Format.{zigzag, Fields, fields_of}

-- a number of 64 bits
abbrev pub IsNumber : ℕ → Type 0
IsNumber n = n < 2 ^ 64

-- an integer of 64 bits
abbrev pub IsInteger : ℤ → Type 0
IsInteger z = zigzag z < 2 ^ 64

-- as long as a number can say
abbrev pub IsCounted : List ℕ → Type 0
IsCounted bytes = IsNumber (length bytes)

abbrev pub IsText : List ℕ → Type 0
IsText bytes = IsCounted bytes × IsUtf8 bytes

abbrev pub IsList : {A : Type 0} → (A → Type 0) → List A → Type 0
IsList fits xs = IsNumber (length xs) × AllByRecursion fits xs

abbrev pub IsPair : {A B : Type 0} → (A → Type 0) → (B → Type 0) → A × B → Type 0
IsPair first second p = first p.0 × second p.1

abbrev pub IsValue : AttrValue → Type 0
IsValue (values.Text t) = IsText t
IsValue (values.Truth t) = Unit {0}
IsValue (values.Whole n) = IsInteger n

abbrev pub IsSet : List (List ℕ × AttrValue) → Type 0
IsSet ps = IsList (IsPair IsText IsValue) ps × AreAttributes ps

abbrev pub IsShape : Shape → Type 0
IsShape (shapes.Sum monotonic) = Unit {0}
IsShape shapes.Gauge = Unit {0}
IsShape (shapes.Histogram bounds) = IsList IsInteger bounds

abbrev pub IsStream : Stream → Type 0
IsStream s = IsText s.scope × (IsText s.name × (IsText s.unit × IsShape s.shape))

abbrev pub IsPayload : Payload → Type 0
IsPayload (payloads.Sum n) = IsInteger n
IsPayload (payloads.Gauge n) = IsInteger n
IsPayload (payloads.Hist count sum buckets None) = IsNumber count × (IsInteger sum × IsList IsNumber buckets)
IsPayload (payloads.Hist count sum buckets (Some range)) = IsNumber count × (IsInteger sum × (IsList IsNumber buckets × (IsInteger range.0 × IsInteger range.1)))

abbrev pub IsPoint : ExportPoint → Type 0
IsPoint p = IsStream p.stream × (IsSet p.attrs × IsPayload p.payload)

-- sixteen bytes
abbrev pub IsInstance : List ℕ → Type 0
IsInstance id = length id ≡ 16

abbrev pub IsWriter : WriterId → Type 0
IsWriter w = IsText w.service × IsInstance w.instance

abbrev pub IsFields : Fields → Type 0
IsFields = IsPair IsWriter (IsPair IsNumber (IsPair IsNumber (IsList IsPoint)))

abbrev pub IsExport : Export → Type 0
IsExport e = IsFields (fields_of e)
