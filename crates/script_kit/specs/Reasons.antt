-- What is said of a bad line.
use Rattle.std.specs.Prelude.{ℕ, List, [], ◌++◌, Option, Some, None, Result, Ok, ◌==◌, ◌&&◌, not, nat_lt, take, find, length, if◌then◌else◌, codes, encode_utf8}
use Rattle.std.specs.Fmt.{decimal}
use Rattle.std.specs.List.{list_all}
use Rattle.script_kit.specs.Forms.{is_label_byte}
use Rattle.script_kit.specs.Reading.{word_at}
use Rattle.script_kit.specs.Pieces.{cut}
use Rattle.script_kit.specs.Shapes.{before_colon, script_name}
use Rattle.script_kit.specs.Words.{words_of, is_line_byte}
use Rattle.script_kit.specs.declared.reason.Form.{Form}
use Rattle.script_kit.specs.declared.reason.Form.TheVariants as form
use Rattle.script_kit.specs.declared.reason.Noun.{Noun}
use Rattle.script_kit.specs.declared.reason.Noun.TheVariants as noun
use Rattle.script_kit.specs.declared.reason.Reason.{Reason}
use Rattle.script_kit.specs.declared.reason.Reason.TheVariants as reason

-- the words that a line wants behind its first, and that of an instrument behind its kind
abbrev pub form_text : Form → List ℕ
form_text form.Instrument = codes "a label, a kind, a scope, a name and a unit"
form_text form.InstrumentOfKind = codes "a scope, a name and a unit"
form_text form.View = codes "a name, a kind, a scope, a new name, keys to keep and an aggregation"
form_text form.Writer = codes "a label, a service, a UUID and a start"
form_text form.Gateway = codes "an id"
form_text form.Limit = codes "a number"
form_text form.Begin = codes "no other word"
form_text form.Measure = codes "a writer, an instrument, a value and attributes"
form_text form.Collect = codes "a writer and a time"
form_text form.Shutdown = codes "a writer and a time"
form_text form.Restart = codes "a writer and a start"
form_text form.Deliver = codes "an export and a gateway"
form_text form.Merge = codes "two gateways"
form_text form.Send = codes "two gateways"
form_text form.Hand = codes "a mail and a gateway"
form_text form.Report = codes "a gateway, a scope, a name, a unit, a shape, a service, attributes and keys to keep"
form_text form.Same = codes "two gateways"
form_text form.Conflicts = codes "a gateway"
form_text form.Newest = codes "a gateway, a writer and a start"

abbrev pub noun_text : Noun → List ℕ
noun_text noun.Start = codes "a start"
noun_text noun.Time = codes "a time"
noun_text noun.Export = codes "the number of an export"
noun_text noun.Mail = codes "the number of a mail"
noun_text noun.Limit = codes "a limit"
noun_text noun.Gateway = codes "an id"

-- the form or the noun that a reason names, if any
abbrev pub reason_named : Reason → List ℕ
reason_named (reason.Count form) = form_text form
reason_named (reason.TooGreat i noun) = noun_text noun
reason_named _ = []

-- what is said of a byte that no line may have, by its name where it has one
abbrev pub byte_text : Option ℕ → List ℕ
byte_text None = []
byte_text (Some byte) = if byte == 13 then codes ", and no carriage return" else if byte == 9 then codes ", and no tab" else codes ", and no byte " ++ decimal byte

-- what is said of a character that no label may have
abbrev pub character_text : Option ℕ → List ℕ
character_text None = []
character_text (Some byte) = codes ", and no '" ++ encode_utf8 byte ++ codes "'"

-- what is said of a name that scripts have another one for
abbrev pub meant_text : List ℕ → Option (List ℕ) → List ℕ
meant_text name None = []
meant_text name (Some here) = codes "; '" ++ name ++ (codes "' is written '" ++ here ++ codes "' here")

-- what is said of this word of a line, or of the line, of what stands there that may not, and of what is meant
abbrev pub reason_text : Reason → List ℕ → Option ℕ → List ℕ → List ℕ
reason_text reason.Cut word odd meant = codes "a line ends with a line feed"
reason_text reason.Bytes word odd meant = codes "a line has only spaces and visible ASCII characters" ++ byte_text odd
reason_text reason.Spaces word odd meant = codes "a line has one space between two words, and none at its ends"
reason_text reason.Unknown word odd meant = codes "no line begins with '" ++ word ++ codes "'"
reason_text (reason.Count form) word odd meant = codes "'" ++ word ++ (codes "' wants " ++ form_text form)
reason_text (reason.Label i) word odd meant = codes "'" ++ word ++ (codes "' is no label: a label has at most 16 of a to z and 0 to 9" ++ character_text odd)
reason_text (reason.Kind i) word odd meant = codes "no kind is called '" ++ word ++ codes "': a kind is counter, updown, gauge or histogram"
reason_text (reason.KindAsked i) word odd meant = codes "no kind is called '" ++ word ++ codes "': a kind is counter, updown, gauge, histogram, or * for any"
reason_text (reason.Uuid i) word odd meant = codes "'" ++ word ++ codes "' is no UUID: a UUID has 32 hexadecimal digits, with hyphens or without"
reason_text (reason.NoNumber i) word odd meant = codes "'" ++ word ++ codes "' is no number: a number has digits alone, and no leading zero"
reason_text (reason.TooGreat i noun) word odd meant = word ++ (codes " is too great for " ++ noun_text noun)
reason_text (reason.Value i) word odd meant = codes "'" ++ word ++ codes "' is no value: a value is a whole number of 64 bits, with no plus sign and no leading zero"
reason_text (reason.Shape i) word odd meant = codes "'" ++ word ++ (codes "' is no shape: a shape is sum+, sum, gauge, hist, or hist: and values with commas between" ++ meant)
reason_text (reason.Attributes i) word odd meant = codes "'" ++ word ++ codes "' lists no attributes: a list is -, or pairs of a key, = and a value, with commas between"
reason_text (reason.Keep i) word odd meant = codes "'" ++ word ++ codes "' lists no keys: a list is *, -, or keys with commas between"
reason_text (reason.Aggregation i) word odd meant = codes "'" ++ word ++ codes "' is no aggregation: an aggregation is default, sum, last, drop, or buckets: and values with commas between"
reason_text reason.Late word odd meant = codes "'" ++ word ++ codes "' wants no 'begin' before it"
reason_text reason.Early word odd meant = codes "'" ++ word ++ codes "' wants a 'begin' before it"
reason_text (reason.Taken i) word odd meant = codes "'" ++ word ++ codes "' was declared before"
reason_text reason.Refused word odd meant = codes "'" ++ word ++ codes "' is refused"
reason_text (reason.NoWriter i) word odd meant = codes "no writer is called '" ++ word ++ codes "'"
reason_text (reason.NoInstrument i) word odd meant = codes "no instrument is called '" ++ word ++ codes "'"
reason_text (reason.NoGateway i) word odd meant = codes "no gateway has the id " ++ word

-- the place of the word that a reason is about, if it is about one
abbrev pub place_of : Reason → Option ℕ
place_of reason.Cut = None
place_of reason.Bytes = None
place_of reason.Spaces = None
place_of (reason.Count form.InstrumentOfKind) = Some 2
place_of (reason.Label i) = Some i
place_of (reason.Kind i) = Some i
place_of (reason.KindAsked i) = Some i
place_of (reason.Uuid i) = Some i
place_of (reason.NoNumber i) = Some i
place_of (reason.TooGreat i noun) = Some i
place_of (reason.Value i) = Some i
place_of (reason.Shape i) = Some i
place_of (reason.Attributes i) = Some i
place_of (reason.Keep i) = Some i
place_of (reason.Aggregation i) = Some i
place_of (reason.Taken i) = Some i
place_of (reason.NoWriter i) = Some i
place_of (reason.NoInstrument i) = Some i
place_of (reason.NoGateway i) = Some i
place_of _ = Some 0

-- the word at a place of a line, or no bytes where it has none or is not made of words
abbrev pub word_in : Result (List (List ℕ)) Reason → Option ℕ → List ℕ
word_in (Ok ws) (Some i) = word_at ws i
word_in _ _ = []

-- a word as it is told: no more than its first 40 bytes
abbrev pub short_word : List ℕ → List ℕ
short_word word = if nat_lt 40 (length word) && list_all is_line_byte (take 40 word) then take 40 word ++ codes ".." else word

-- the first byte of a line that no line may have, or of its label that no label may have
abbrev pub odd_byte : List ℕ → List ℕ → Reason → Option ℕ
odd_byte line label reason.Bytes = find (λ byte. not (is_line_byte byte)) line
odd_byte line label (reason.Label i) = find (λ byte. not (is_label_byte byte)) label
odd_byte line label _ = None

-- of a shape that is called by its kind: what it is called in scripts
abbrev pub meant_by : List ℕ → Reason → List ℕ
meant_by word (reason.Shape i) = let name = before_colon word (cut 58 word) in meant_text name (script_name name)
meant_by word _ = []

-- what is said of a line that is bad for this reason
unfoldable pub sentence_of : List ℕ → Reason → List ℕ
sentence_of line why =
    let word = word_in (words_of line) (place_of why) in
    reason_text why (short_word word) (odd_byte line word why) (meant_by word why)
