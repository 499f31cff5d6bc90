-- What is shown of a file.
use Rattle.std.specs.Prelude.{◌≡◌, ℕ, ℤ, true, false, nat_le, ◌==◌, ◌||◌, if◌then◌else◌, List, [], ◌∷◌, ◌++◌, codes, encode_utf8, Option, Some, None}
use Rattle.std.specs.Fmt.{decimal, signed_decimal}
use Rattle.std.specs.List.{flat_map, join_by}
use Rattle.std.specs.Str.{chars}
use Rattle.uuid.specs.Text.{hyphenated_text, lower}
use Rattle.attr_kit.specs.declared.keep.Keep.TheVariants as keeps
use Rattle.gossip_kit.specs.Views.{MessageModel}
use Rattle.point_kit.specs.Exports.{Points}
use Rattle.point_kit.specs.declared.export.Export.{Export}
use Rattle.point_kit.specs.declared.shape.Shape.{Shape}
use Rattle.point_kit.specs.declared.shape.Shape.TheVariants as shapes
use Rattle.point_kit.specs.declared.stream.Stream.{Stream}
use Rattle.point_kit.specs.declared.writer_id.WriterId.{WriterId}
use Rattle.rollup_kit.specs.Quote.{hex}
use Rattle.rollup_kit.specs.Rollups.{rollup_rows}
use Rattle.rollup_kit.specs.Streams.{streams_held}
use Rattle.rollup_kit.specs.TableText.{table_text}
use Rattle.rollup_kit.specs.declared.ask.Ask.{Ask}
use Rattle.file_kit.specs.Contents.{points_of, IsOf}
use Rattle.file_kit.specs.declared.content.Content.{Content}
use Rattle.file_kit.specs.declared.content.Content.TheVariants as content

-- a character of a word: `\\`, `\x` and two hexadecimal digits for a space or a control character, else itself
unfoldable pub escape : ℕ → List ℕ
escape c =
    if c == 92 then 92 ∷ 92 ∷ []
    else if nat_le c 32 || c == 127 then hex c
    else encode_utf8 c

unfoldable pub escaped : List ℕ → List ℕ
escaped text = flat_map escape (chars text)

-- a text as a word, `-` for the empty text
abbrev pub word_text : List ℕ → List ℕ
word_text [] = 45 ∷ []
word_text (b ∷ bs) = escaped (b ∷ bs)

-- bounds with a comma between each two
abbrev pub bounds_text : List ℤ → List ℕ
bounds_text bounds = join_by signed_decimal (44 ∷ []) bounds

unfoldable pub shape_text : Shape → List ℕ
shape_text (shapes.Sum true) = codes "sum+"
shape_text (shapes.Sum false) = codes "sum"
shape_text shapes.Gauge = codes "gauge"
shape_text (shapes.Histogram bounds) = codes "hist:" ++ bounds_text bounds

-- a text as a word, and a space
abbrev pub spaced : List ℕ → List ℕ
spaced text = word_text text ++ 32 ∷ []

-- the words of a report that name a stream: scope, name and unit, and the shape
unfoldable pub stream_words : Stream → List ℕ
stream_words s = spaced s.scope ++ (spaced s.name ++ spaced s.unit)

unfoldable pub stream_line : Stream → List ℕ
stream_line s = stream_words s ++ (shape_text s.shape ++ 10 ∷ [])

-- an ask of all points of a stream, each set of attributes apart
abbrev pub all_of : Stream → Ask
all_of stream = record { stream = stream; service = None; only = []; keep = keeps.All }

-- a stream, and the table of its points
unfoldable pub stream_text : Points → Stream → List ℕ
stream_text points s = stream_line s ++ table_text (rollup_rows (all_of s) points)

abbrev pub streams_text : Points → List ℕ
streams_text points = flat_map (stream_text points) (streams_held points)

abbrev pub instance_text : List ℕ → List ℕ
instance_text instance = hyphenated_text lower instance

-- an incarnation: whose it is, and its start
unfoldable pub incarnation_text : WriterId → ℕ → List ℕ
incarnation_text writer start = word_text writer.service ++ (32 ∷ instance_text writer.instance ++ (codes ", start " ++ decimal start))

-- whose an export is, and its times
unfoldable pub export_line : Export → List ℕ
export_line e = codes "export of " ++ (incarnation_text e.writer e.start ++ (codes ", time " ++ (decimal e.time ++ 10 ∷ [])))

-- from which gateway to which a message goes
unfoldable pub between : ℕ → ℕ → List ℕ
between from to = codes " of gateway " ++ (decimal from ++ (codes ", for " ++ (decimal to ++ 10 ∷ [])))

-- what a message is
abbrev pub body_text : Option ℕ → Option ℕ → List ℕ
body_text delta (Some number) = codes "ack " ++ decimal number
body_text (Some number) None = codes "delta " ++ decimal number
body_text None None = codes "state"

unfoldable pub message_line : MessageModel → List ℕ
message_line m = body_text m.delta m.ack ++ between m.from m.to

abbrev pub content_line : Content → List ℕ
content_line (content.Export e) = export_line e
content_line (content.Message m) = message_line m

-- a file: its name, what it is of, and the tables of its points
unfoldable pub file_text : List ℕ → Content → List ℕ
file_text name c = word_text name ++ (codes ": " ++ (content_line c ++ streams_text (points_of c)))

-- a text is what is shown of the file with these bytes
abbrev pub IsShown : List ℕ → List ℕ → List ℕ → Type 0
IsShown name bytes text = (c : Content) × IsOf bytes c × (text ≡ file_text name c)
