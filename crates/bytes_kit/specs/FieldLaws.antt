-- The forms of an export's fields are forms that no two values share.
use Rattle.std.specs.Prelude.{◌≡◌, ℕ, ℤ, ◌<◌, Bool, List, [], ◌∷◌, ◌++◌, length, refl, true, false, Option, Some, None}
use Rattle.std.proofs.Common.{sym, ap, ◌∙◌, arith}
use mathlib.Core.Bool.{true≢false}
use Rattle.attr_kit.specs.declared.attr_value.AttrValue.{AttrValue}
use Rattle.attr_kit.specs.declared.attr_value.AttrValue.TheVariants as values
use Rattle.point_kit.specs.Exact.{exact_streams}
use Rattle.point_kit.specs.declared.export_point.ExportPoint.{ExportPoint}
use Rattle.point_kit.specs.declared.payload.Payload.{Payload}
use Rattle.point_kit.specs.declared.payload.Payload.TheVariants as payloads
use Rattle.point_kit.specs.declared.shape.Shape.{Shape}
use Rattle.point_kit.specs.declared.shape.Shape.TheVariants as shapes
use Rattle.point_kit.specs.declared.stream.Stream.{Stream}
use Rattle.point_kit.specs.declared.writer_id.WriterId.{WriterId}
use Rattle.bytes_kit.specs.Codes.{IsCode}
use Rattle.bytes_kit.specs.Format.{fields, fields_behind, varint, integer, text, text_behind, list_of, pair_of, pair_behind, past_pair, list_behind, same_behind, past_same, value, past_value, attributes, past_attributes, shape, stream, stream_fields, fields_of_stream, stream_or_last, point_stream, past_point_stream, payload, point, past_point, point_fields, fields_of_point, writer, past_writer, writer_fields}
use Rattle.bytes_kit.specs.Laws.{varint_code, integer_code, text_code, list_code, pair_code, code_through}
use Rattle.bytes_kit.specs.Past.{Past, no_past, past_text, is_last}
use Rattle.bytes_kit.specs.PastLaws.{IsCodeBehind, text_behind_code, text_behind_bytes, list_behind_code, list_behind_bytes, pair_behind_code, pair_behind_bytes}

-- the first byte tells the variants apart
first : List ℕ → ℕ
first [] = 0
first (x ∷ xs) = x

pub value_code : IsCodeBehind value
unfolding first
value_code p (values.Text a) (values.Text b) s t e =
    let rest : text_behind p a ++ s ≡ text_behind p b ++ t = cc in
    let both = text_behind_code p a b s t rest in
    (ap (λ x. values.Text x) both.0, both.1)
value_code p (values.Truth false) (values.Truth false) s t e = (refl, cc)
value_code p (values.Truth true) (values.Truth true) s t e = (refl, cc)
value_code p (values.Whole a) (values.Whole b) s t e =
    let rest : integer a ++ s ≡ integer b ++ t = cc in
    let both = integer_code a b s t rest in
    (ap (λ x. values.Whole x) both.0, both.1)
value_code p (values.Text a) (values.Truth false) s t e = absurd (omega (arith, ap first e))
value_code p (values.Text a) (values.Truth true) s t e = absurd (omega (arith, ap first e))
value_code p (values.Whole a) (values.Truth false) s t e = absurd (omega (arith, ap first e))
value_code p (values.Whole a) (values.Truth true) s t e = absurd (omega (arith, ap first e))
value_code p a b s t e = absurd (omega (arith, ap first e))

pub value_bytes : (p : Past) (v : AttrValue) → 0 < length (value p v)
value_bytes p (values.Text t) = omega arith
value_bytes p (values.Truth false) = omega arith
value_bytes p (values.Truth true) = omega arith
value_bytes p (values.Whole n) = omega arith

pub attributes_code : IsCodeBehind attributes
attributes_code = list_behind_code (pair_behind text_behind past_text value) (past_pair past_text past_value) (pair_behind_code text_behind past_text value text_behind_code value_code)

pub attributes_bytes : (p : Past) (ps : List (List ℕ × AttrValue)) → 0 < length (attributes p ps)
attributes_bytes = list_behind_bytes (pair_behind text_behind past_text value) (past_pair past_text past_value)

pub shape_code : IsCode shape
unfolding first
shape_code (shapes.Sum false) (shapes.Sum false) s t e = (refl, cc)
shape_code (shapes.Sum true) (shapes.Sum true) s t e = (refl, cc)
shape_code shapes.Gauge shapes.Gauge s t e = (refl, cc)
shape_code (shapes.Histogram a) (shapes.Histogram b) s t e =
    let rest : list_of integer a ++ s ≡ list_of integer b ++ t = cc in
    let both = list_code integer integer_code a b s t rest in
    (ap (λ x. shapes.Histogram x) both.0, both.1)
shape_code shapes.Gauge (shapes.Sum false) s t e = absurd (omega (arith, ap first e))
shape_code shapes.Gauge (shapes.Sum true) s t e = absurd (omega (arith, ap first e))
shape_code (shapes.Histogram a) (shapes.Sum false) s t e = absurd (omega (arith, ap first e))
shape_code (shapes.Histogram a) (shapes.Sum true) s t e = absurd (omega (arith, ap first e))
shape_code a b s t e = absurd (omega (arith, ap first e))

pub shape_bytes : (s : Shape) → 0 < length (shape s)
shape_bytes (shapes.Sum false) = omega arith
shape_bytes (shapes.Sum true) = omega arith
shape_bytes shapes.Gauge = omega arith
shape_bytes (shapes.Histogram b) = omega arith

stream_fields_code : IsCodeBehind stream_fields
stream_fields_code =
    pair_behind_code text_behind past_text (pair_behind text_behind past_text (pair_behind text_behind past_text (same_behind shape))) text_behind_code
    (pair_behind_code text_behind past_text (pair_behind text_behind past_text (same_behind shape)) text_behind_code
    (pair_behind_code text_behind past_text (same_behind shape) text_behind_code (λ _. shape_code)))

pub stream_code : IsCodeBehind stream
stream_code p = code_through (stream_fields p) fields_of_stream (λ x. record { scope = x.0; name = x.1.0; unit = x.1.1.0; shape = x.1.1.1 }) (λ _. refl) (stream_fields_code p)

pub stream_bytes : (p : Past) (s : Stream) → 0 < length (stream p s)
stream_bytes p s = pair_behind_bytes text_behind past_text (pair_behind text_behind past_text (pair_behind text_behind past_text (same_behind shape))) text_behind_bytes p (fields_of_stream s)

-- a stream that is the last is that one
pub last_is : (o : Option Stream) (a b : Stream) → is_last o a ≡ true → is_last o b ≡ true → a ≡ b
last_is None a b p q = absurd (true≢false (sym p))
last_is (Some r) a b p q = sym (exact_streams r a p) ∙ exact_streams r b q

stream_or_last_code : (p : Past) (a b : Stream) (m n : Bool) (s t : List ℕ) → is_last p.stream a ≡ m → is_last p.stream b ≡ n → stream_or_last m p a ++ s ≡ stream_or_last n p b ++ t → (a ≡ b) × (s ≡ t)
unfolding first
stream_or_last_code p a b true true s t i j e = (last_is p.stream a b i j, cc)
stream_or_last_code p a b false false s t i j e =
    let rest : stream p a ++ s ≡ stream p b ++ t = cc in
    stream_code p a b s t rest
stream_or_last_code p a b true false s t i j e = absurd (omega (arith, ap first e))
stream_or_last_code p a b false true s t i j e = absurd (omega (arith, ap first e))

pub point_stream_code : IsCodeBehind point_stream
point_stream_code p a b s t e = stream_or_last_code p a b (is_last p.stream a) (is_last p.stream b) s t refl refl e

stream_or_last_bytes : (b : Bool) (p : Past) (s : Stream) → 0 < length (stream_or_last b p s)
stream_or_last_bytes true p s = omega arith
stream_or_last_bytes false p s = omega arith

pub point_stream_bytes : (p : Past) (s : Stream) → 0 < length (point_stream p s)
point_stream_bytes p s = stream_or_last_bytes (is_last p.stream s) p s

-- count, sum and buckets; and with a range
abbrev counts : ℕ × (ℤ × List ℕ) → List ℕ
counts = pair_of varint (pair_of integer (list_of varint))

abbrev with_range_bytes : ℕ × (ℤ × (List ℕ × (ℤ × ℤ))) → List ℕ
with_range_bytes = pair_of varint (pair_of integer (pair_of (list_of varint) (pair_of integer integer)))

counts_code : IsCode counts
counts_code = pair_code varint (pair_of integer (list_of varint)) varint_code (pair_code integer (list_of varint) integer_code (list_code varint varint_code))

with_range_bytes_code : IsCode with_range_bytes
with_range_bytes_code =
    pair_code varint (pair_of integer (pair_of (list_of varint) (pair_of integer integer))) varint_code
    (pair_code integer (pair_of (list_of varint) (pair_of integer integer)) integer_code
    (pair_code (list_of varint) (pair_of integer integer) (list_code varint varint_code) (pair_code integer integer integer_code integer_code)))

pub payload_code : IsCode payload
unfolding first
payload_code (payloads.Sum a) (payloads.Sum b) s t e =
    let rest : integer a ++ s ≡ integer b ++ t = cc in
    let both = integer_code a b s t rest in
    (ap (λ x. payloads.Sum x) both.0, both.1)
payload_code (payloads.Gauge a) (payloads.Gauge b) s t e =
    let rest : integer a ++ s ≡ integer b ++ t = cc in
    let both = integer_code a b s t rest in
    (ap (λ x. payloads.Gauge x) both.0, both.1)
payload_code (payloads.Hist c m l None) (payloads.Hist d n k None) s t e =
    let rest : counts (c, (m, l)) ++ s ≡ counts (d, (n, k)) ++ t = cc in
    let both = counts_code (c, (m, l)) (d, (n, k)) s t rest in
    (ap (λ (p : ℕ × (ℤ × List ℕ)). payloads.Hist p.0 p.1.0 p.1.1 None) both.0, both.1)
payload_code (payloads.Hist c m l (Some r)) (payloads.Hist d n k (Some q)) s t e =
    let rest : with_range_bytes (c, (m, (l, r))) ++ s ≡ with_range_bytes (d, (n, (k, q))) ++ t = cc in
    let both = with_range_bytes_code (c, (m, (l, r))) (d, (n, (k, q))) s t rest in
    (ap (λ (p : ℕ × (ℤ × (List ℕ × (ℤ × ℤ)))). payloads.Hist p.0 p.1.0 p.1.1.0 (Some p.1.1.1)) both.0, both.1)
payload_code (payloads.Sum a) (payloads.Hist d n k None) s t e = absurd (omega (arith, ap first e))
payload_code (payloads.Sum a) (payloads.Hist d n k (Some q)) s t e = absurd (omega (arith, ap first e))
payload_code (payloads.Gauge a) (payloads.Hist d n k None) s t e = absurd (omega (arith, ap first e))
payload_code (payloads.Gauge a) (payloads.Hist d n k (Some q)) s t e = absurd (omega (arith, ap first e))
payload_code a b s t e = absurd (omega (arith, ap first e))

pub payload_bytes : (p : Payload) → 0 < length (payload p)
payload_bytes (payloads.Sum n) = omega arith
payload_bytes (payloads.Gauge n) = omega arith
payload_bytes (payloads.Hist c m l None) = omega arith
payload_bytes (payloads.Hist c m l (Some r)) = omega arith

point_fields_code : IsCodeBehind point_fields
point_fields_code =
    pair_behind_code point_stream past_point_stream (pair_behind attributes past_attributes (same_behind payload)) point_stream_code
    (pair_behind_code attributes past_attributes (same_behind payload) attributes_code (λ _. payload_code))

pub point_code : IsCodeBehind point
point_code p = code_through (point_fields p) fields_of_point (λ x. record { stream = x.0; attrs = x.1.0; payload = x.1.1 }) (λ _. refl) (point_fields_code p)

pub point_bytes : (p : Past) (x : ExportPoint) → 0 < length (point p x)
point_bytes p x = pair_behind_bytes point_stream past_point_stream (pair_behind attributes past_attributes (same_behind payload)) point_stream_bytes p (fields_of_point x)

pub writer_code : IsCodeBehind writer
writer_code p =
    code_through (writer_fields p) (λ w. (w.service, w.instance)) (λ x. record { service = x.0; instance = x.1 }) (λ _. refl)
    (pair_behind_code text_behind past_text (same_behind text) text_behind_code (λ _. text_code) p)

pub writer_bytes : (p : Past) (w : WriterId) → 0 < length (writer p w)
writer_bytes p w = pair_behind_bytes text_behind past_text (same_behind text) text_behind_bytes p (w.service, w.instance)

fields_behind_code : IsCodeBehind fields_behind
fields_behind_code =
    pair_behind_code writer past_writer (pair_behind (same_behind varint) past_same (pair_behind (same_behind varint) past_same (list_behind point past_point))) writer_code
    (pair_behind_code (same_behind varint) past_same (pair_behind (same_behind varint) past_same (list_behind point past_point)) (λ _. varint_code)
    (pair_behind_code (same_behind varint) past_same (list_behind point past_point) (λ _. varint_code) (list_behind_code point past_point point_code)))

pub fields_code : IsCode fields
fields_code = fields_behind_code no_past
