-- The commands of the program, and what a command line asks for.
use Rattle.std.specs.Prelude.{◌≡◌, ◌⊎◌, ◌≤◌, ℕ, List, [], ◌∷◌, Option, Some, codes, pos, true, Bool}
use Rattle.std.specs.Str.Parse.{digits_value, without_leading_plus}
use Rattle.clap.specs.Words.{App, IsUnsignedIn, Kinds, Row, Rule, Text, fault_of, new_app, new_rule, one_of, subcommand_of, takes, with_rule, with_subcommand}
use Rattle.clap.specs.declared.builder.value_parser.ValueParser.TheVariants.{Signed, Unsigned}
use Rattle.otm_kit.specs.declared.words.Asked.{Asked}
use Rattle.otm_kit.specs.declared.words.Asked.TheVariants as asked

abbrev pub run : App
run = new_app (codes "run")

-- an option of a number from 1 to 8, which is 2 where it is left out
abbrev pub count_rule : Text → Rule
count_rule name = record (new_rule name) { long = Some name; defaults = codes "2" ∷ []; parser = Some (Signed (pos 1) (pos 8)) }

-- the option of how many recordings each recorder makes
abbrev pub each_rule : Rule
each_rule = record (new_rule (codes "each")) { long = Some (codes "each"); defaults = codes "1000" ∷ []; parser = Some (Unsigned 0 1000000) }

abbrev pub fleet : App
fleet = with_rule (with_rule (with_rule (with_rule (new_app (codes "fleet")) (count_rule (codes "writers"))) (count_rule (codes "recorders"))) each_rule) (count_rule (codes "gateways"))

-- the program, which wants one of its commands, and has a version that may be asked for
unfoldable pub otm : App
otm = with_subcommand (with_subcommand (record (new_app (codes "otm")) {
  top = record ((new_app (codes "otm")).top) { has_version = true; subcommand_required = true };
}) run.top) fleet.top

-- the command that the words name, with what they and the defaults give its options
unfoldable pub named_by : List Text → Option (Text × List Row)
named_by words = subcommand_of otm words

-- the words are none that the program refuses
unfoldable pub is_taken : List Text → Bool
is_taken words = takes otm words

-- what the program finds wrong with the words: the kinds of refusal that may come, none where it takes them
unfoldable pub faults_of : List Text → Kinds
faults_of words = fault_of otm words

-- the first value of an option, given or its default, is this number in decimal digits, with a plus sign or none
abbrev pub IsGiven : List Row → Text → ℕ → Type 0
IsGiven rows option number = (text : Text) × (one_of option rows ≡ Some text) × (number ≡ digits_value 10 (without_leading_plus text))

-- the option has no value, or one that is no number from the least to the most
abbrev pub GivesNone : List Row → Text → ℕ → ℕ → Type 0
GivesNone rows option least most = (text : Text) → one_of option rows ≡ Some text → IsUnsignedIn least most text → ⊥

-- an option of a fleet gives no number of its range
abbrev pub LacksNumber : List Row → Type 0
LacksNumber rows = GivesNone rows (codes "writers") 1 8 ⊎ GivesNone rows (codes "recorders") 1 8 ⊎ GivesNone rows (codes "each") 0 1000000 ⊎ GivesNone rows (codes "gateways") 1 8

-- the command is neither `run` nor a fleet whose options have their numbers
abbrev pub AsksNothing : Option (Text × List Row) → Type 0
AsksNothing found = (rows : List Row) → (found ≡ Some (codes "run", rows) → ⊥) × (found ≡ Some (codes "fleet", rows) → LacksNumber rows)

-- the command and its options are what was asked
abbrev pub Says : Option (Text × List Row) → Asked → Type 0
Says found asked.Run = (rows : List Row) × (found ≡ Some (codes "run", rows))
Says found (asked.Fleet writers recorders each gateways) =
    (rows : List Row) × (found ≡ Some (codes "fleet", rows))
    × IsGiven rows (codes "writers") writers × IsGiven rows (codes "recorders") recorders
    × IsGiven rows (codes "each") each × IsGiven rows (codes "gateways") gateways

abbrev pub IsCount : ℕ → Type 0
IsCount number = (1 ≤ number) × (number ≤ 8)

-- the numbers of a fleet lie in their ranges
abbrev pub IsRanged : Asked → Type 0
IsRanged asked.Run = Unit {0}
IsRanged (asked.Fleet writers recorders each gateways) = IsCount writers × IsCount recorders × (each ≤ 1000000) × IsCount gateways
