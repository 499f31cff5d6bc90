-- How the words of a line are read, one after the other, up to the first that is wrong.
use Rattle.std.specs.Prelude.{◌≡◌, ℕ, List, [], Result, Ok, Err, ok_or, ◌==◌, ◌^◌, length, if◌then◌else◌, slice_index_or}
use Rattle.script_kit.specs.Forms.{label_of}
use Rattle.script_kit.specs.Numbers.{number_of, is_numeral}
use Rattle.script_kit.specs.declared.reason.Form.{Form}
use Rattle.script_kit.specs.declared.reason.Noun.{Noun}
use Rattle.script_kit.specs.declared.reason.Noun.TheVariants as noun
use Rattle.script_kit.specs.declared.reason.Reason.{Reason}
use Rattle.script_kit.specs.declared.reason.Reason.TheVariants as reason
use Rattle.script_kit.specs.declared.stop.Stop.{Stop}
use Rattle.script_kit.specs.declared.stop.Stop.TheVariants as stop

infixl 10 ◌>>=◌
-- what f reads behind a value, or why there is none
abbrev pub ◌>>=◌ : {A B : Type 0} → Result A Reason → (A → Result B Reason) → Result B Reason
(Ok x) >>= f = f x
(Err why) >>= f = Err why

-- the word at a place, or no bytes
abbrev pub word_at : List (List ℕ) → ℕ → List ℕ
word_at words i = slice_index_or words i []

-- whether a line has so many words, as its form wants
abbrev pub count_of : List (List ℕ) → ℕ → Form → Result (Unit {0}) Reason
count_of ws many form = if length ws == many then Ok tt else Err (reason.Count form)

abbrev pub label_at : List (List ℕ) → ℕ → Result (List ℕ) Reason
label_at ws i = ok_or (label_of (word_at ws i)) (reason.Label i)

-- a numeral that is no number of the noun is too great for one
abbrev pub no_number : List ℕ → ℕ → Noun → Reason
no_number word i noun = if is_numeral word then reason.TooGreat i noun else reason.NoNumber i

-- a number of 64 bits, and one of 32 bits
abbrev pub number_at : List (List ℕ) → ℕ → Noun → Result ℕ Reason
number_at ws i noun = ok_or (number_of (2 ^ 64) (word_at ws i)) (no_number (word_at ws i) i noun)

abbrev pub id_at : List (List ℕ) → ℕ → Result ℕ Reason
id_at ws i = ok_or (number_of (2 ^ 32) (word_at ws i)) (no_number (word_at ws i) i noun.Gateway)

-- what was read, or why not; of want of memory nothing is said
abbrev pub Reads : {A : Type 0} → Result A Stop → Result A Reason → Type 0
Reads (Ok x) found = found ≡ Ok x
Reads (Err (stop.Bad why)) found = found ≡ Err why
Reads (Err stop.NoMemory) found = Unit {0}
