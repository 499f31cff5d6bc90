-- The fields of a message, after "Encoding" of the documentation of Protocol Buffers.
use Rattle.std.specs.Prelude.{ℕ, zero, suc, ◌+◌, ◌-◌, ◌*◌, ◌/◌, ◌%◌, ◌^◌, ◌==◌, ◌||◌, nat_lt, nat_le, if◌then◌else◌, List, [], ◌∷◌, length, take, Option, Some, None, Result, Ok, Err}
use Rattle.std.specs.Int.{from_le_bytes, w64}
use Rattle.otlp_kit.specs.Spans.{Span, front, behind}
use Rattle.otlp_kit.specs.declared.field.Content.{Content}
use Rattle.otlp_kit.specs.declared.field.Content.TheVariants as contents
use Rattle.otlp_kit.specs.declared.field.Field.{Field}
use Rattle.otlp_kit.specs.declared.request_fault.RequestFault.{RequestFault}
use Rattle.otlp_kit.specs.declared.request_fault.RequestReason.{RequestReason}
use Rattle.otlp_kit.specs.declared.request_fault.RequestReason.TheVariants as reasons

-- why a request is not read, and where
abbrev pub refused : RequestReason → ℕ → RequestFault
refused why place = record { why = why; place = place }

-- what an answer leads to: a refusal stays
abbrev pub and_then : {A B : Type 0} → Result A RequestFault → (A → Result B RequestFault) → Result B RequestFault
and_then (Err f) next = Err f
and_then (Ok a) next = next a

-- a group of seven bits whose top bit is set, below those that follow it
abbrev pub group_below : ℕ → Option (ℕ × Span) → Option (ℕ × Span)
group_below b None = None
group_below b (Some p) = if nat_lt (128 * p.0 + (b - 128)) (2 ^ 64) then Some (128 * p.0 + (b - 128), p.1) else None

-- a number below 2 ^ 64 in at most so many groups, the lowest first, and what is left behind it
abbrev pub groups_at : ℕ → ℕ → List ℕ → Option (ℕ × Span)
groups_at zero at bytes = None
groups_at (suc more) at [] = None
groups_at (suc more) at (b ∷ bs) =
    if nat_lt b 128 then Some (b, record { at = at + 1; bytes = bs })
    else group_below b (groups_at more (at + 1) bs)

-- Base 128 varint, not necessarily the shortest: ten groups have 64 bits
unfoldable pub varint_at : Span → Option (ℕ × Span)
varint_at s = groups_at 10 s.at s.bytes

-- what a field has, and what is left behind it
abbrev pub Found : Type 0
Found = Result (Content × Span) RequestFault

abbrev pub varint_content : Span → Option (ℕ × Span) → Found
varint_content s None = Err (refused reasons.Malformed s.at)
varint_content s (Some p) = Ok (contents.Varint p.0, p.1)

abbrev pub eight_content : ℕ → Span → Found
eight_content at s =
    if nat_le 8 (length s.bytes) then Ok (contents.Eight (from_le_bytes w64 (take 8 s.bytes)), behind 8 s) else Err (refused reasons.Malformed at)

abbrev pub block_content : ℕ → Span → Option (ℕ × Span) → Found
block_content at s None = Err (refused reasons.Malformed s.at)
block_content at s (Some p) =
    if nat_le p.0 (length p.1.bytes) then Ok (contents.Block (front p.0 p.1), behind p.0 p.1) else Err (refused reasons.Malformed at)

abbrev pub four_content : ℕ → Span → Found
four_content at s = if nat_le 4 (length s.bytes) then Ok (contents.Four, behind 4 s) else Err (refused reasons.Malformed at)

-- what follows a tag of this wire type
unfoldable pub content_at : ℕ → ℕ → Span → Found
content_at at wire s =
    if wire == 0 then varint_content s (varint_at s)
    else if wire == 1 then eight_content at s
    else if wire == 2 then block_content at s (varint_at s)
    else if wire == 5 then four_content at s
    else Err (refused reasons.Malformed at)

-- field numbers go from 1 to 2 ^ 29 - 1
abbrev pub tagged : ℕ → Option (ℕ × Span) → Result (Option Field × Span) RequestFault
tagged at None = Err (refused reasons.Malformed at)
tagged at (Some p) =
    if nat_lt p.0 8 || nat_le (2 ^ 32) p.0 then Err (refused reasons.Malformed at)
    else and_then (content_at at (p.0 % 8) p.1) (λ c. Ok (Some (record { at = at; number = p.0 / 8; content = c.0 }), c.1))

-- the next field, where one is left, and what is left behind it
unfoldable pub next_field : Span → Result (Option Field × Span) RequestFault
next_field s = if length s.bytes == 0 then Ok (None, s) else tagged s.at (varint_at s)

-- what a field changes, before what is left is read; or, at the end, nothing
abbrev pub with_next : {M : Type 0} → (M → Field → Result M RequestFault) → (M → Span → Result M RequestFault) → M → Option Field → Span → Result M RequestFault
with_next step later m None rest = Ok m
with_next step later m (Some f) rest = and_then (step m f) (λ changed. later changed rest)

-- A message: each of its fields changes what is read so far. None has more fields than bytes.
module _ {M : Type 0} (step : M → Field → Result M RequestFault) where
  abbrev pub fields_from : ℕ → M → Span → Result M RequestFault
  fields_from zero m s = Ok m
  fields_from (suc more) m s = and_then (next_field s) (λ p. with_next step (fields_from more) m p.0 p.1)

  unfoldable pub message : M → Span → Result M RequestFault
  message none s = fields_from (length s.bytes) none s
