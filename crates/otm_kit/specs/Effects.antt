-- What a line does, by the lines before it.
use Rattle.std.specs.Prelude.{List, [], ℕ, Bool, true, false, if◌then◌else◌, Result, Ok, Err}
use Rattle.std.specs.List.{list_any}
use Rattle.std.specs.Option.{option_map_or}
use Rattle.script_kit.specs.declared.line.Command.{Command}
use Rattle.script_kit.specs.declared.line.Line.{Line}
use Rattle.script_kit.specs.declared.line.Line.TheVariants as line
use Rattle.script_kit.specs.Reading.{◌>>=◌}
use Rattle.script_kit.specs.declared.reason.Reason.{Reason}
use Rattle.script_kit.specs.declared.reason.Reason.TheVariants as reason
use Rattle.world_kit.specs.Judged.{reply_to}
use Rattle.otm_kit.specs.Answers.{answer_of}
use Rattle.otm_kit.specs.Begin.{begin_fault, setup_of}
use Rattle.otm_kit.specs.Declarations.{Declared, declared_by, is_taken, named_at}
use Rattle.otm_kit.specs.Events.{commands, event_of, deeds_of_commands}
use Rattle.otm_kit.specs.Texts.{begin_text, refusal_line, reply_text}

-- a line is done, or bad for a reason, and prints this
pub data Effect : Type 0 where
  done : List ℕ → Effect
  bad : List ℕ → Reason → Effect

abbrev pub is_begin : Line → Bool
is_begin line.Begin = true
is_begin _ = false

-- whether the script has begun
unfoldable pub has_begun : List Line → Bool
has_begun lines = list_any is_begin lines

-- a line that prints this, or is bad
abbrev pub or_bad : Result (List ℕ) Reason → Effect
or_bad (Ok text) = done text
or_bad (Err why) = bad [] why

-- the same, where the script has begun, and else bad
abbrev pub once_begun : List Line → Result (List ℕ) Reason → Effect
once_begun lines printed = if has_begun lines then or_bad printed else bad [] reason.Early

-- what a command prints: the refusal of its event, or nothing
abbrev pub told_of : Declared → List Command → Command → Result (List ℕ) Reason
told_of d cs command = event_of d command >>= λ event. Ok (reply_text (reply_to (setup_of d) (deeds_of_commands d cs) event))

unfoldable pub effect_of : List Line → Line → Effect
effect_of lines line.Nothing = done []
effect_of lines (line.Declare declaration) = if has_begun lines then bad [] reason.Late else if is_taken (declared_by lines) declaration then bad [] (reason.Taken (named_at declaration)) else done []
effect_of lines line.Begin = if has_begun lines then bad [] reason.Late else option_map_or (λ fault. bad (refusal_line (begin_text fault)) reason.Refused) (begin_fault (declared_by lines)) (done [])
effect_of lines (line.Do command) = once_begun lines (told_of (declared_by lines) (commands lines) command)
effect_of lines (line.Ask query) = once_begun lines (answer_of (declared_by lines) (commands lines) query)
