-- What a script prints, up to its first bad line, which line that is, and what is said of it.
use Rattle.std.specs.Prelude.{ℕ, List, [], ◌∷◌, ◌++◌, ◌+◌, Option, Some, None, Result, Ok, Err, if◌then◌else◌, length}
use Rattle.std.specs.List.{filter_map}
use Rattle.std.specs.Option.{option_map}
use Rattle.std.specs.Result.{result_ok}
use Rattle.script_kit.specs.Words.{pieces_of, is_filled}
use Rattle.script_kit.specs.Lines.{line_of}
use Rattle.script_kit.specs.Reasons.{sentence_of}
use Rattle.script_kit.specs.declared.line.Line.{Line}
use Rattle.script_kit.specs.declared.reason.Reason.{Reason}
use Rattle.script_kit.specs.declared.reason.Reason.TheVariants as reason
use Rattle.otm_kit.specs.Effects.{Effect, done, bad, effect_of}

-- what the lines of a script ask for
abbrev pub lines_of : List (List ℕ) → List Line
lines_of pieces = filter_map (λ piece. result_ok (line_of piece)) pieces

-- what a line does that was read, behind these lines
abbrev pub read_effect : List Line → Result Line Reason → Effect
read_effect before (Ok line) = effect_of before line
read_effect before (Err why) = bad [] why

-- what a piece does, behind these lines
unfoldable pub piece_effect : List Line → List ℕ → Effect
piece_effect before piece = read_effect before (line_of piece)

-- a bad line: its number from 1, its bytes, and why it is bad
pub record Wrong : Type 0 where
  pub number : ℕ
  pub line : List ℕ
  pub reason : Reason

-- what pieces print, and the bad one
pub record Output : Type 0 where
  pub text : List ℕ
  pub wrong : Option Wrong

abbrev pub behind : List ℕ → Output → Output
behind text rest = record { text = text ++ rest.text; wrong = rest.wrong }

-- a piece of this number that has this effect, and then the pieces behind it
abbrev pub then_says : ℕ → List ℕ → Effect → Output → Output
then_says number piece (done text) rest = behind text rest
then_says number piece (bad text why) rest = record { text = text; wrong = Some (record { number = number; line = piece; reason = why }) }

-- The output of the last pieces of a script behind these. The last of all is a line that was cut, and is to be empty.
unfoldable pub output_of : List (List ℕ) → List (List ℕ) → Output
output_of [] before = record { text = []; wrong = None }
output_of (piece ∷ []) before = record { text = []; wrong = if is_filled piece then Some (record { number = length before + 1; line = piece; reason = reason.Cut }) else None }
output_of (piece ∷ next ∷ more) before =
    then_says (length before + 1) piece (piece_effect (lines_of before) piece) (output_of (next ∷ more) (before ++ piece ∷ []))

-- the text that a script prints, up to its first bad line
unfoldable pub says : List ℕ → List ℕ
says script = (output_of (pieces_of script) []).text

-- the first bad line
unfoldable pub wrong_of : List ℕ → Option Wrong
wrong_of script = (output_of (pieces_of script) []).wrong

-- its number, from 1
abbrev pub bad_line_of : List ℕ → Option ℕ
bad_line_of script = option_map (λ w. w.number) (wrong_of script)

-- why it is bad
abbrev pub reason_of : List ℕ → Option Reason
reason_of script = option_map (λ w. w.reason) (wrong_of script)

-- what is said of it
abbrev pub sentence_for : List ℕ → Option (List ℕ)
sentence_for script = option_map (λ w. sentence_of w.line w.reason) (wrong_of script)

abbrev pub effect_text : Effect → List ℕ
effect_text (done text) = text
effect_text (bad text why) = text
