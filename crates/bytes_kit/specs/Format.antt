-- The one form of each value.
use Rattle.std.specs.Prelude.{ℕ, zero, suc, ◌+◌, ◌*◌, ◌/◌, ◌%◌, nat_lt, ℤ, pos, negsuc, if◌then◌else◌, Bool, List, [], ◌∷◌, ◌++◌, length, true, false, Option, Some, None}
use Rattle.std.specs.Int.{w32, to_be_bytes}
use Rattle.std.specs.List.{flat_map}
use Rattle.attr_kit.specs.declared.attr_value.AttrValue.{AttrValue}
use Rattle.attr_kit.specs.declared.attr_value.AttrValue.TheVariants as values
use Rattle.point_kit.specs.declared.export.Export.{Export}
use Rattle.point_kit.specs.declared.export_point.ExportPoint.{ExportPoint}
use Rattle.point_kit.specs.declared.payload.Payload.{Payload}
use Rattle.point_kit.specs.declared.payload.Payload.TheVariants as payloads
use Rattle.point_kit.specs.declared.shape.Shape.{Shape}
use Rattle.point_kit.specs.declared.shape.Shape.TheVariants as shapes
use Rattle.point_kit.specs.declared.stream.Stream.{Stream}
use Rattle.point_kit.specs.declared.writer_id.WriterId.{WriterId}
use Rattle.bytes_kit.specs.Checksum.{checksum}
use Rattle.bytes_kit.specs.Past.{Past, no_past, place_of, past_text, with_stream, is_last}

-- a number in groups of seven bits, the lowest first: each but the last has its top bit set, and at most so many have
abbrev pub groups : ℕ → ℕ → List ℕ
groups zero n = n ∷ []
groups (suc more) n = if nat_lt n 128 then n ∷ [] else (n % 128 + 128) ∷ groups more (n / 128)

-- a number below 2 ^ 64, in at most ten bytes
unfoldable pub varint : ℕ → List ℕ
varint n = groups 9 n

-- 0, -1, 1, -2, .. as 0, 1, 2, 3, ..
abbrev pub zigzag : ℤ → ℕ
zigzag (pos n) = 2 * n
zigzag (negsuc n) = 2 * n + 1

abbrev pub integer : ℤ → List ℕ
integer z = varint (zigzag z)

-- how many bytes, and the bytes
abbrev pub text : List ℕ → List ℕ
text bytes = varint (length bytes) ++ bytes

-- how many, and the forms
abbrev pub list_of : {A : Type 0} → (A → List ℕ) → List A → List ℕ
list_of code xs = varint (length xs) ++ flat_map code xs

-- one behind the other
abbrev pub pair_of : {A B : Type 0} → (A → List ℕ) → (B → List ℕ) → A × B → List ℕ
pair_of first second p = first p.0 ++ second p.1

-- ---- forms behind what came before

-- 0 and a text that comes for the first time; else its place and 1
abbrev pub text_or_place : List ℕ → Option ℕ → List ℕ
text_or_place t None = 0 ∷ text t
text_or_place t (Some place) = varint (place + 1)

abbrev pub text_behind : Past → List ℕ → List ℕ
text_behind p t = text_or_place t (place_of p.texts t)

-- one behind the other, which stands behind all that came before and the first
abbrev pub pair_behind : {A B : Type 0} → (Past → A → List ℕ) → (Past → A → Past) → (Past → B → List ℕ) → Past → A × B → List ℕ
pair_behind first past_first second p x = first p x.0 ++ second (past_first p x.0) x.1

abbrev pub past_pair : {A B : Type 0} → (Past → A → Past) → (Past → B → Past) → Past → A × B → Past
past_pair past_first past_second p x = past_second (past_first p x.0) x.1

module _ {S A : Type 0} (code : S → A → List ℕ) (past : S → A → S) where
  -- each behind those before it
  abbrev pub forms_behind : S → List A → List ℕ
  forms_behind p [] = []
  forms_behind p (x ∷ xs) = code p x ++ forms_behind (past p x) xs

  -- how many, and each behind those before it
  abbrev pub list_behind : S → List A → List ℕ
  list_behind p xs = varint (length xs) ++ forms_behind p xs

-- what came, once each of a list came too
abbrev pub past_all : {S A : Type 0} → (S → A → S) → S → List A → S
past_all past p [] = p
past_all past p (x ∷ xs) = past_all past (past p x) xs

-- of what has no text, the form is the same behind anything, and nothing comes of it
abbrev pub same_behind : {A : Type 0} → (A → List ℕ) → Past → A → List ℕ
same_behind code p = code

abbrev pub past_same : {A : Type 0} → Past → A → Past
past_same p x = p

abbrev pub value : Past → AttrValue → List ℕ
value p (values.Text t) = 0 ∷ text_behind p t
value p (values.Truth false) = 1 ∷ []
value p (values.Truth true) = 2 ∷ []
value p (values.Whole n) = 3 ∷ integer n

abbrev pub past_value : Past → AttrValue → Past
past_value p (values.Text t) = past_text p t
past_value p (values.Truth b) = p
past_value p (values.Whole n) = p

-- the pairs in the order of their keys
abbrev pub attributes : Past → List (List ℕ × AttrValue) → List ℕ
attributes = list_behind (pair_behind text_behind past_text value) (past_pair past_text past_value)

abbrev pub past_attributes : Past → List (List ℕ × AttrValue) → Past
past_attributes = past_all (past_pair past_text past_value)

abbrev pub shape : Shape → List ℕ
shape (shapes.Sum false) = 0 ∷ []
shape (shapes.Sum true) = 1 ∷ []
shape shapes.Gauge = 2 ∷ []
shape (shapes.Histogram bounds) = 3 ∷ list_of integer bounds

-- scope, name, unit and shape
abbrev pub StreamFields : Type 0
StreamFields = List ℕ × (List ℕ × (List ℕ × Shape))

abbrev pub fields_of_stream : Stream → StreamFields
fields_of_stream s = (s.scope, (s.name, (s.unit, s.shape)))

abbrev pub stream_fields : Past → StreamFields → List ℕ
stream_fields = pair_behind text_behind past_text (pair_behind text_behind past_text (pair_behind text_behind past_text (same_behind shape)))

abbrev pub past_stream_fields : Past → StreamFields → Past
past_stream_fields = past_pair past_text (past_pair past_text (past_pair past_text past_same))

abbrev pub stream : Past → Stream → List ℕ
stream p s = stream_fields p (fields_of_stream s)

abbrev pub past_stream : Past → Stream → Past
past_stream p s = past_stream_fields p (fields_of_stream s)

-- 0 where it is the last stream, and light; else 1 and the stream
abbrev pub stream_or_last : Bool → Past → Stream → List ℕ
stream_or_last true p s = 0 ∷ []
stream_or_last false p s = 1 ∷ stream p s

abbrev pub past_stream_or_last : Bool → Past → Stream → Past
past_stream_or_last true p s = p
past_stream_or_last false p s = with_stream (past_stream p s) s

abbrev pub point_stream : Past → Stream → List ℕ
point_stream p s = stream_or_last (is_last p.stream s) p s

abbrev pub past_point_stream : Past → Stream → Past
past_point_stream p s = past_stream_or_last (is_last p.stream s) p s

-- a histogram's count, sum and buckets, and its range where there is one
abbrev pub payload : Payload → List ℕ
payload (payloads.Sum n) = 0 ∷ integer n
payload (payloads.Gauge n) = 1 ∷ integer n
payload (payloads.Hist count sum buckets None) = 2 ∷ varint count ++ (integer sum ++ list_of varint buckets)
payload (payloads.Hist count sum buckets (Some range)) = 3 ∷ varint count ++ (integer sum ++ (list_of varint buckets ++ (integer range.0 ++ integer range.1)))

abbrev pub PointFields : Type 0
PointFields = Stream × (List (List ℕ × AttrValue) × Payload)

abbrev pub fields_of_point : ExportPoint → PointFields
fields_of_point x = (x.stream, (x.attrs, x.payload))

abbrev pub point_fields : Past → PointFields → List ℕ
point_fields = pair_behind point_stream past_point_stream (pair_behind attributes past_attributes (same_behind payload))

abbrev pub past_point_fields : Past → PointFields → Past
past_point_fields = past_pair past_point_stream (past_pair past_attributes past_same)

abbrev pub point : Past → ExportPoint → List ℕ
point p x = point_fields p (fields_of_point x)

abbrev pub past_point : Past → ExportPoint → Past
past_point p x = past_point_fields p (fields_of_point x)

-- the service as a text, and the instance, which no other text is
abbrev pub writer_fields : Past → List ℕ × List ℕ → List ℕ
writer_fields = pair_behind text_behind past_text (same_behind text)

abbrev pub past_writer_fields : Past → List ℕ × List ℕ → Past
past_writer_fields = past_pair past_text past_same

abbrev pub writer : Past → WriterId → List ℕ
writer p w = writer_fields p (w.service, w.instance)

abbrev pub past_writer : Past → WriterId → Past
past_writer p w = past_writer_fields p (w.service, w.instance)

-- 'K' 'T' 'S', a letter that says what follows, and version 2
abbrev pub head_of : ℕ → List ℕ
head_of letter = 75 ∷ 84 ∷ 83 ∷ letter ∷ 2 ∷ []

-- an export's letter is 'K'
abbrev pub head : List ℕ
head = head_of 75

-- writer, start, time and points
abbrev pub Fields : Type 0
Fields = WriterId × (ℕ × (ℕ × List ExportPoint))

abbrev pub fields_of : Export → Fields
fields_of e = (e.writer, (e.start, (e.time, e.points)))

abbrev pub fields_behind : Past → Fields → List ℕ
fields_behind = pair_behind writer past_writer (pair_behind (same_behind varint) past_same (pair_behind (same_behind varint) past_same (list_behind point past_point)))

-- the fields, of which nothing came before
abbrev pub fields : Fields → List ℕ
fields = fields_behind no_past

-- bytes, and the checksum of them
unfoldable pub with_checksum : List ℕ → List ℕ
with_checksum bytes = bytes ++ to_be_bytes w32 (checksum bytes)

abbrev pub bytes_of_fields : Fields → List ℕ
bytes_of_fields p = with_checksum (head ++ fields p)

abbrev pub bytes_of : Export → List ℕ
bytes_of e = bytes_of_fields (fields_of e)
