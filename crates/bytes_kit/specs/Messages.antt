-- The one form of a message.
use Rattle.std.specs.Prelude.{ℕ, Bool, true, false, ◌&&◌, ◌==◌, List, [], ◌∷◌, ◌++◌, Option, Some, None}
use Rattle.std.specs.FinMap.{entries}
use Rattle.gossip_kit.specs.Views.{MessageModel}
use Rattle.point_kit.specs.Exports.{Points}
use Rattle.point_kit.specs.contracts.stream.StreamPartialEq.TheImpl as streams
use Rattle.point_kit.specs.contracts.writer_id.WriterIdPartialEq.TheImpl as writers
use Rattle.point_kit.specs.declared.cell.Cell.{Cell}
use Rattle.point_kit.specs.declared.cell.Held.{Held}
use Rattle.point_kit.specs.declared.cell.Held.TheVariants.{One, Conflict}
use Rattle.point_kit.specs.declared.key.Key.{Key}
use Rattle.point_kit.specs.declared.payload.Payload.{Payload}
use Rattle.point_kit.specs.declared.stream.Stream.{Stream}
use Rattle.point_kit.specs.declared.writer_id.WriterId.{WriterId}
use Rattle.attr_kit.specs.declared.attr_value.AttrValue.{AttrValue}
use Rattle.bytes_kit.specs.Format.{varint, attributes, past_attributes, stream, past_stream, payload, writer, past_writer, pair_behind, past_pair, same_behind, past_same, list_behind, head_of, with_checksum}
use Rattle.bytes_kit.specs.Past.{Past, no_past, is_short, is_light}
use Rattle.bytes_kit.specs.declared.carried.Carried.{Carried}
use Rattle.bytes_kit.specs.declared.carried.Carried.TheVariants as bodies
use Rattle.bytes_kit.specs.declared.keys.Shared.{Shared}
use Rattle.bytes_kit.specs.declared.keys.Shared.TheVariants as shares

-- a cell under its key
abbrev pub Entry : Type 0
Entry = Key × Cell Payload

abbrev pub common_of : Bool → Bool → Shared
common_of true true = shares.Stream
common_of true false = shares.Incarnation
common_of false same = shares.Nothing

-- what writer, start and stream share with the key before: a writer of a long name and a stream that is not light are written again
abbrev pub common_fields : Option Key → WriterId → ℕ → Stream → Shared
common_fields None w start s = shares.Nothing
common_fields (Some j) w start s = common_of (((writers.ghosts).eq j.writer w && (j.start == start)) && is_short w.service) ((streams.ghosts).eq j.stream s && is_light s)

-- what a key shares with the one before it
abbrev pub common : Option Key → Key → Shared
common before k = common_fields before k.writer k.start k.stream

abbrev pub common_form : Shared → List ℕ
common_form shares.Nothing = 0 ∷ []
common_form shares.Incarnation = 1 ∷ []
common_form shares.Stream = 2 ∷ []

-- writer, start, stream and attributes of a key
abbrev pub KeyFields : Type 0
KeyFields = WriterId × (ℕ × (Stream × List (List ℕ × AttrValue)))

abbrev pub key_fields : Past → KeyFields → List ℕ
key_fields = pair_behind writer past_writer (pair_behind (same_behind varint) past_same (pair_behind stream past_stream attributes))

abbrev pub past_key_fields : Past → KeyFields → Past
past_key_fields = past_pair past_writer (past_pair past_same (past_pair past_stream past_attributes))

-- stream and attributes
abbrev pub series_fields : Past → Stream × List (List ℕ × AttrValue) → List ℕ
series_fields = pair_behind stream past_stream attributes

abbrev pub past_series_fields : Past → Stream × List (List ℕ × AttrValue) → Past
past_series_fields = past_pair past_stream past_attributes

-- what a key does not share
abbrev pub key_rest : Past → Shared → Key → List ℕ
key_rest p shares.Nothing k = key_fields p (k.writer, (k.start, (k.stream, k.attrs)))
key_rest p shares.Incarnation k = series_fields p (k.stream, k.attrs)
key_rest p shares.Stream k = attributes p k.attrs

abbrev pub past_rest : Past → Shared → Key → Past
past_rest p shares.Nothing k = past_key_fields p (k.writer, (k.start, (k.stream, k.attrs)))
past_rest p shares.Incarnation k = past_series_fields p (k.stream, k.attrs)
past_rest p shares.Stream k = past_attributes p k.attrs

-- what came before a key: texts, and the key before it
abbrev pub Earlier : Type 0
Earlier = Past × Option Key

-- a key behind another
abbrev pub key : Earlier → Key → List ℕ
key b k = common_form (common b.1 k) ++ key_rest b.0 (common b.1 k) k

abbrev pub past_key : Earlier → Key → Past
past_key b k = past_rest b.0 (common b.1 k) k

-- the payload, or 4 where several came
abbrev pub payload_or_conflict : Held Payload → List ℕ
payload_or_conflict (One p) = payload p
payload_or_conflict Conflict = 4 ∷ []

abbrev pub cell : Cell Payload → List ℕ
cell c = varint c.time ++ payload_or_conflict c.held

-- a cell under its key, behind another key
abbrev pub entry : Earlier → Entry → List ℕ
entry b e = key b e.0 ++ cell e.1

abbrev pub past_entry : Earlier → Entry → Earlier
past_entry b e = (past_key b e.0, Some e.0)

-- nothing, and no key
abbrev pub nothing_earlier : Earlier
nothing_earlier = (no_past, None)

-- the key of the last, and before any that of the one before them
abbrev pub last_behind : Option Key → List Entry → Option Key
last_behind before [] = before
last_behind before (e ∷ es) = last_behind (Some e.0) es

abbrev pub last_key : List Entry → Option Key
last_key es = last_behind None es

-- how many, and the cells
abbrev pub cells : List Entry → List ℕ
cells = list_behind entry past_entry nothing_earlier

abbrev pub body_bytes : Carried → List ℕ
body_bytes (bodies.Whole es) = 0 ∷ cells es
body_bytes (bodies.Delta number es) = 1 ∷ varint number ++ cells es
body_bytes (bodies.Ack number) = 2 ∷ varint number

-- a message's letter is 'M'
abbrev pub message_head : List ℕ
message_head = head_of 77

-- from whom, to whom, and what is carried
abbrev pub MessageFields : Type 0
MessageFields = ℕ × ℕ × Carried

abbrev pub message_fields : MessageFields → List ℕ
message_fields s = varint s.0 ++ (varint s.1 ++ body_bytes s.2)

abbrev pub bytes_of_message_fields : MessageFields → List ℕ
bytes_of_message_fields s = with_checksum (message_head ++ message_fields s)

-- of an Ack its number, of a delta its number and the cells, else the cells
abbrev pub body_bytes_of : Points → Option ℕ → Option ℕ → Carried
body_bytes_of points delta (Some number) = bodies.Ack number
body_bytes_of points (Some number) None = bodies.Delta number (entries points)
body_bytes_of points None None = bodies.Whole (entries points)

abbrev pub fields_of_message : MessageModel → MessageFields
fields_of_message m = (m.from, m.to, body_bytes_of m.points m.delta m.ack)

abbrev pub bytes_of_message : MessageModel → List ℕ
bytes_of_message m = bytes_of_message_fields (fields_of_message m)
