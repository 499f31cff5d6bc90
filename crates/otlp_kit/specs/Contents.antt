-- What a field has, where it is what the message wants.
use Rattle.std.specs.Prelude.{ℕ, zero, suc, ◌/◌, ◌%◌, ◌==◌, if◌then◌else◌, List, [], ◌∷◌, length, take, drop, Option, Some, None, Result, Ok, Err}
use Rattle.std.specs.Int.{from_le_bytes, w64}
use Rattle.std.specs.Str.{is_utf8}
use Rattle.otlp_kit.specs.Fields.{and_then, refused}
use Rattle.otlp_kit.specs.Limits.{is_long}
use Rattle.otlp_kit.specs.Spans.{Span}
use Rattle.otlp_kit.specs.declared.field.Content.{Content}
use Rattle.otlp_kit.specs.declared.field.Content.TheVariants as contents
use Rattle.otlp_kit.specs.declared.field.Field.{Field}
use Rattle.otlp_kit.specs.declared.request_fault.RequestFault.{RequestFault}
use Rattle.otlp_kit.specs.declared.request_fault.RequestReason.TheVariants as reasons

-- another wire type is refused at the tag
abbrev pub number_of : ℕ → Content → Result ℕ RequestFault
number_of at (contents.Varint n) = Ok n
number_of at (contents.Eight n) = Err (refused reasons.Malformed at)
number_of at (contents.Block s) = Err (refused reasons.Malformed at)
number_of at contents.Four = Err (refused reasons.Malformed at)

abbrev pub eight_of : ℕ → Content → Result ℕ RequestFault
eight_of at (contents.Varint n) = Err (refused reasons.Malformed at)
eight_of at (contents.Eight n) = Ok n
eight_of at (contents.Block s) = Err (refused reasons.Malformed at)
eight_of at contents.Four = Err (refused reasons.Malformed at)

abbrev pub block_of : ℕ → Content → Result Span RequestFault
block_of at (contents.Varint n) = Err (refused reasons.Malformed at)
block_of at (contents.Eight n) = Err (refused reasons.Malformed at)
block_of at (contents.Block s) = Ok s
block_of at contents.Four = Err (refused reasons.Malformed at)

abbrev pub number_in : Field → Result ℕ RequestFault
number_in f = number_of f.at f.content

abbrev pub eight_in : Field → Result ℕ RequestFault
eight_in f = eight_of f.at f.content

abbrev pub block_in : Field → Result Span RequestFault
block_in f = block_of f.at f.content

-- numbers of eight bytes each, so many
abbrev pub eights : ℕ → List ℕ → List ℕ
eights zero bytes = []
eights (suc more) bytes = from_le_bytes w64 (take 8 bytes) ∷ eights more (drop 8 bytes)

-- the numbers of a repeated field: a packed list, or one number
abbrev pub eights_of : ℕ → Content → Result (List ℕ) RequestFault
eights_of at (contents.Varint n) = Err (refused reasons.Malformed at)
eights_of at (contents.Eight n) = Ok (n ∷ [])
eights_of at (contents.Block s) =
    if length s.bytes % 8 == 0 then Ok (eights (length s.bytes / 8) s.bytes) else Err (refused reasons.Malformed at)
eights_of at contents.Four = Err (refused reasons.Malformed at)

abbrev pub eights_in : Field → Result (List ℕ) RequestFault
eights_in f = eights_of f.at f.content

-- a text is UTF-8, or is refused at its first byte
abbrev pub text_of : Span → Result (List ℕ) RequestFault
text_of s = if is_utf8 s.bytes then Ok s.bytes else Err (refused reasons.NotText s.at)

-- a second one of a field that is not repeated is refused, as is a second member of a oneof
abbrev pub free : {A : Type 0} → Field → Option A → Result (Unit {0}) RequestFault
free f None = Ok _
free f (Some x) = Err (refused reasons.Malformed f.at)

abbrev pub once : {A B : Type 0} → Field → Option B → Result A RequestFault → Result A RequestFault
once f held content = and_then (free f held) (λ _. content)

abbrev pub text_once : {A : Type 0} → Field → Option A → Result (List ℕ) RequestFault
text_once f held = once f held (and_then (block_in f) text_of)

-- a text that has a limit
abbrev pub fits : Field → List ℕ → Result (List ℕ) RequestFault
fits f text = if is_long text then Err (refused reasons.TooLongText f.at) else Ok text

abbrev pub name_once : {A : Type 0} → Field → Option A → Result (List ℕ) RequestFault
name_once f held = and_then (text_once f held) (fits f)

abbrev pub number_once : {A : Type 0} → Field → Option A → Result ℕ RequestFault
number_once f held = once f held (number_in f)

abbrev pub eight_once : {A : Type 0} → Field → Option A → Result ℕ RequestFault
eight_once f held = once f held (eight_in f)
