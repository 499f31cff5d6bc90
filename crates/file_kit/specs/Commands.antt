-- The commands on files, and what a command line asks for.
use Rattle.std.specs.Prelude.{◌≡◌, ◌||◌, ◌⊎◌, ℕ, Bool, false, true, List, [], take, drop, Option, Some, codes, if◌then◌else◌, slice_index_or}
use Rattle.std.specs.Str.{bytes_eq}
use Rattle.clap.specs.Lexer.{usize_max}
use Rattle.clap.specs.Words.{App, Row, Rule, Text, all_of, first_of, new_app, new_rule, one_of, subcommand_of, takes, with_rule, with_subcommand}
use Rattle.clap.specs.declared.builder.action.ArgAction.TheVariants.{SetTrue}
use Rattle.rollup_kit.specs.declared.ask.Ask.{Ask}
use Rattle.file_kit.specs.ArchiveWords.{IsArchiving}
use Rattle.file_kit.specs.AskWords.{IsAsk}
use Rattle.file_kit.specs.declared.archive.Archiving.{Archiving}
use Rattle.file_kit.specs.declared.answers.PageFormat.{PageFormat}
use Rattle.file_kit.specs.declared.answers.PageFormat.TheVariants.{Prometheus, OpenMetrics}
use Rattle.file_kit.specs.declared.command.FileCommand.{FileCommand}
use Rattle.file_kit.specs.declared.command.FileCommand.TheVariants as command

-- files, one or more
abbrev pub files_rule : Rule
files_rule = record (new_rule (codes "files")) { range = Some (record { start_inclusive = 1; end_inclusive = usize_max }); value_names = 1; required = true }

abbrev pub on_files : Text → App
on_files name = with_rule (new_app name) files_rule

-- where a state goes
abbrev pub output_rule : Rule
output_rule = record (new_rule (codes "output")) { short = Some 111; long = Some (codes "output"); value_names = 1; required = true }

abbrev pub merge : App
merge = with_rule (with_rule (new_app (codes "merge")) output_rule) files_rule

-- the seven words of an ask, and files, one or more
abbrev pub words_rule : Rule
words_rule = record (new_rule (codes "words")) { range = Some (record { start_inclusive = 8; end_inclusive = usize_max }); value_names = 8; required = true }

abbrev pub report : App
report = with_rule (new_app (codes "report")) words_rule

abbrev pub openmetrics_rule : Rule
openmetrics_rule = record (new_rule (codes "openmetrics")) { long = Some (codes "openmetrics"); action = Some SetTrue }

abbrev pub service_rule : Rule
service_rule = record (new_rule (codes "service")) { long = Some (codes "service") }

abbrev pub expose : App
expose = with_rule (with_rule (with_rule (new_app (codes "expose")) openmetrics_rule) service_rule) files_rule

-- the four words of an archive, and files, one or more
abbrev pub archive_rule : Rule
archive_rule = record (new_rule (codes "words")) { range = Some (record { start_inclusive = 5; end_inclusive = usize_max }); value_names = 5; required = true }

abbrev pub limit_rule : Rule
limit_rule = record (new_rule (codes "limit")) { long = Some (codes "limit"); value_names = 1 }

abbrev pub archive : App
archive = with_rule (with_rule (with_rule (new_app (codes "archive")) output_rule) limit_rule) archive_rule

-- the program, of which these are the commands on files; it wants one of them
unfoldable pub otm_keeping : App
otm_keeping = with_subcommand (with_subcommand (record (new_app (codes "otm")) {
  top = record ((new_app (codes "otm")).top) { subcommand_required = true };
}) (on_files (codes "show")).top) merge.top

unfoldable pub otm_asking : App
otm_asking = with_subcommand (with_subcommand otm_keeping report.top) expose.top

unfoldable pub otm_sending : App
otm_sending = with_subcommand otm_asking (on_files (codes "otlp")).top

unfoldable pub otm : App
otm = with_subcommand otm_sending archive.top

-- the command that the words name, with what they give its options
unfoldable pub named_by : List Text → Option (Text × List Row)
named_by words = subcommand_of otm words

-- the files that are named
abbrev pub HasFiles : List Row → List Text → Type 0
HasFiles rows files = all_of (codes "files") rows ≡ Some files

-- OpenMetrics where its flag is given
abbrev pub GivesFormat : List Row → PageFormat → Type 0
GivesFormat rows format = (one_of (codes "openmetrics") rows ≡ Some (codes "true") → format ≡ OpenMetrics)
    × (one_of (codes "openmetrics") rows ≡ Some (codes "false") → format ≡ Prometheus)

-- the words behind `report`
abbrev pub HasWords : Option (Text × List Row) → List Text → Type 0
HasWords found words = (rows : List Row) × (found ≡ Some (codes "report", rows)) × (all_of (codes "words") rows ≡ Some words)

-- the words behind `archive`
abbrev pub HasArchiveWords : Option (Text × List Row) → List Row → List Text → Type 0
HasArchiveWords found rows words = (found ≡ Some (codes "archive", rows)) × (all_of (codes "words") rows ≡ Some words)

-- they ask for this archive
abbrev pub AsksArchive : List Row → List Text → Archiving → Type 0
AsksArchive rows words ask = IsArchiving (take 3 words) (take 1 (drop 3 words)) (first_of (codes "limit") rows) ask

-- the command and its options are what was asked
abbrev pub Asks : Option (Text × List Row) → FileCommand → Type 0
Asks found (command.Show files) = (rows : List Row) × (found ≡ Some (codes "show", rows)) × HasFiles rows files
Asks found (command.Merge into files) =
    (rows : List Row) × (found ≡ Some (codes "merge", rows)) × (first_of (codes "output") rows ≡ Some into) × HasFiles rows files
Asks found (command.Report ask files) =
    (words : List Text) × HasWords found words × IsAsk (take 7 words) ask × (files ≡ drop 7 words)
Asks found (command.Expose format service files) =
    (rows : List Row) × (found ≡ Some (codes "expose", rows))
    × GivesFormat rows format × (service ≡ first_of (codes "service") rows) × HasFiles rows files
Asks found (command.Otlp files) = (rows : List Row) × (found ≡ Some (codes "otlp", rows)) × HasFiles rows files
Asks found (command.Archive into ask files) =
    (rows : List Row) × (words : List Text) × HasArchiveWords found rows words
    × (first_of (codes "output") rows ≡ Some into) × AsksArchive rows words ask × (files ≡ drop 4 words)

-- a report's words ask for none
abbrev pub HasNoAsk : Option (Text × List Row) → Type 0
HasNoAsk found = (words : List Text) × HasWords found words × ((ask : Ask) → IsAsk (take 7 words) ask → ⊥)

-- the words of an archive ask for none
abbrev pub HasNoArchive : Option (Text × List Row) → Type 0
HasNoArchive found = (rows : List Row) × (words : List Text) × HasArchiveWords found rows words × ((ask : Archiving) → AsksArchive rows words ask → ⊥)

-- the words that a command gives on to the lines of a script are none of theirs
abbrev pub SaysNothing : Option (Text × List Row) → Type 0
SaysNothing found = HasNoAsk found ⊎ HasNoArchive found

-- the program does not take the words, or a command does not take those that it gives on
abbrev pub AsksNothing : List Text → Type 0
AsksNothing words = (takes otm words ≡ false) ⊎ SaysNothing (named_by words)

abbrev pub is_command : Text → Bool
is_command word = bytes_eq word (codes "show") || (bytes_eq word (codes "merge") || (bytes_eq word (codes "report") || (bytes_eq word (codes "expose") || (bytes_eq word (codes "otlp") || bytes_eq word (codes "archive")))))

-- the word at a place, or no bytes
abbrev pub word_at : List Text → ℕ → Text
word_at words place = slice_index_or words place []

-- the words are of a command on files, or of help on one
unfoldable pub is_of_files : List Text → Bool
is_of_files words = if bytes_eq (word_at words 1) (codes "help") then is_command (word_at words 2) else is_command (word_at words 1)
