-- What the parts of a running script stand for.
use Rattle.std.specs.Prelude.{◌≡◌, ℕ, List, [], ◌∷◌, ◌++◌, true, false, Option, None, Some, Result, Ok, Err, IfSome, String, string_bytes}
use Rattle.std.specs.Io.KnownBytes.{Appends}
use Rattle.script_kit.specs.Bytes.{AppendsFront}
use Rattle.script_kit.specs.Lines.{line_of}
use Rattle.script_kit.specs.Reasons.{sentence_of}
use Rattle.script_kit.specs.declared.line.Command.{Command}
use Rattle.script_kit.specs.declared.line.Line.{Line}
use Rattle.world_kit.specs.Stands.{Stands}
use Rattle.otm_kit.specs.Answers.{points_at}
use Rattle.point_kit.specs.Exports.{Points}
use Rattle.otm_kit.specs.Begin.{setup_of}
use Rattle.otm_kit.specs.Declarations.{Declared, declared_by, gateway_place}
use Rattle.otm_kit.specs.Effects.{Effect, done, bad, effect_of, has_begun}
use Rattle.otm_kit.specs.Events.{commands, deeds_of_commands}
use Rattle.otm_kit.specs.Places.{Knows}
use Rattle.otm_kit.specs.Says.{effect_text, piece_effect, reason_of, sentence_for}
use Rattle.otm_kit.specs.declared.desk.Desk.{Desk}
use Rattle.otm_kit.specs.declared.desk.Outcome.{Outcome}
use Rattle.otm_kit.specs.declared.desk.Outcome.TheVariants as out
use Rattle.otm_kit.specs.declared.ended.Ended.{Ended}
use Rattle.otm_kit.specs.declared.running.Running.{Running}
use Rattle.script_kit.specs.declared.reason.Reason.{Reason}
use Rattle.script_kit.specs.declared.stop.Stop.{Stop}
use Rattle.script_kit.specs.declared.stop.Stop.TheVariants as stop

-- a script that has begun stands for what was declared and the commands that were done
pub record Runs (d : Declared) (cs : List Command) (r : Running) : Type 0 where
  pub instruments : r.instruments ≡ d.instrument_labels
  pub writers : r.writers ≡ d.writer_labels
  pub gateways : Knows d.gateways r.gateways.places
  pub world : Stands (setup_of d) (deeds_of_commands d cs) r.world

-- points are those of the gateway of an id
pub record IsGatewayOf (d : Declared) (cs : List Command) (id : ℕ) (points : Points) : Type 0 where
  pub place : ℕ
  pub is : gateway_place d.gateways id ≡ Some place
  pub points_are : points ≡ points_at d cs place

-- one that has not stands for what was declared
pub record Waits (lines : List Line) (draft : Declared) : Type 0 where
  pub begun : has_begun lines ≡ false
  pub is : draft ≡ declared_by lines
  pub idle : commands lines ≡ []

pub record Goes (lines : List Line) (r : Running) : Type 0 where
  pub begun : has_begun lines ≡ true
  pub runs : Runs (declared_by lines) (commands lines) r

abbrev pub StandsFor : List Line → Declared → Option Running → Type 0
StandsFor lines draft None = Waits lines draft
StandsFor lines draft (Some r) = Goes lines r

-- a desk stands for the lines that were done
abbrev pub IsAfter : List Line → Desk → Type 0
IsAfter lines desk = StandsFor lines desk.draft desk.running

abbrev pub effect : Outcome → Effect
effect (out.Done text) = done (string_bytes text)
effect (out.Bad text why) = bad (string_bytes text) why

abbrev pub IfDone : Outcome → Type 0 → Type 0
IfDone (out.Done text) P = P
IfDone (out.Bad text why) P = Unit {0}

-- a line has its effect and, where it is done, the desk stands for it too
abbrev pub Acts : List Line → Line → Outcome → Desk → Type 0
Acts lines line outcome desk = (effect outcome ≡ effect_of lines line) × IfDone outcome (IsAfter (lines ++ line ∷ []) desk)

-- a piece is done: it is a line, what it prints is written, and the desk stands for it too
pub record Does (before : List Line) (piece : List ℕ) (old new : Option (List ℕ)) (desk : Desk) : Type 0 where
  pub printed : List ℕ
  pub effect : piece_effect before piece ≡ done printed
  pub appends : Appends old new printed
  pub line : Line
  pub is : line_of piece ≡ Ok line
  pub after : IsAfter (before ++ line ∷ []) desk

-- an end tells why a line is bad and, where there was memory for it, says so
pub record Tells (end : Ended) (line : List ℕ) (why : Reason) : Type 0 where
  pub reason : end.reason ≡ Some why
  pub sentence : IfSome end.sentence (λ text. string_bytes text ≡ sentence_of line why)

-- an end tells why the first bad line of a script is bad
abbrev pub TellsOf : Ended → List ℕ → Type 0
TellsOf end script = (end.reason ≡ reason_of script) × IfSome end.sentence (λ text. sentence_for script ≡ Some (string_bytes text))

-- a piece is bad, what it prints is written, and the end tells why
pub record Fails (before : List Line) (piece : List ℕ) (old new : Option (List ℕ)) (end : Ended) : Type 0 where
  pub printed : List ℕ
  pub why : Reason
  pub tells : Tells end piece why
  pub effect : piece_effect before piece ≡ bad printed why
  pub appends : Appends old new printed

-- a desk stands for lines, and behind them a piece is done
abbrev pub DoesNext : Desk → List ℕ → Option (List ℕ) → Option (List ℕ) → Desk → Type 0
DoesNext desk piece old new after = (before : List Line) → IsAfter before desk → Does before piece old new after

-- behind them a piece is bad
abbrev pub FailsNext : Desk → List ℕ → Option (List ℕ) → Option (List ℕ) → Ended → Type 0
FailsNext desk piece old new end = (before : List Line) → IsAfter before desk → Fails before piece old new end

-- a front is written of what a piece prints behind them
abbrev pub BreaksOff : Desk → List ℕ → Option (List ℕ) → Option (List ℕ) → Type 0
BreaksOff desk piece old new = (before : List Line) → IsAfter before desk → AppendsFront old new (effect_text (piece_effect before piece))

-- a text is printed, or a line is bad; of want of memory nothing is said
abbrev pub Prints : {Z : Type 0} → Result (String Z) Stop → Result (List ℕ) Reason → Type 0
Prints (Ok text) told = told ≡ Ok (string_bytes text)
Prints (Err (stop.Bad why)) told = told ≡ Err why
Prints (Err stop.NoMemory) told = Unit {0}
