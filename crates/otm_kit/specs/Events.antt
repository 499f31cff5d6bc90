-- What the commands of a script say of its world.
use Rattle.std.specs.Prelude.{ℕ, List, Option, Some, None, Result, Ok, ok_or}
use Rattle.std.specs.List.{filter_map}
use Rattle.std.specs.Result.{result_ok}
use Rattle.script_kit.specs.Reading.{◌>>=◌}
use Rattle.script_kit.specs.declared.line.Command.{Command}
use Rattle.script_kit.specs.declared.line.Command.TheVariants as command
use Rattle.script_kit.specs.declared.line.Line.{Line}
use Rattle.script_kit.specs.declared.line.Line.TheVariants as line
use Rattle.script_kit.specs.declared.reason.Reason.{Reason}
use Rattle.script_kit.specs.declared.reason.Reason.TheVariants as reason
use Rattle.world_kit.specs.Judged.{Deeds, deeds}
use Rattle.world_kit.specs.declared.event.Event.{Event}
use Rattle.world_kit.specs.declared.event.Event.TheVariants as event
use Rattle.otm_kit.specs.Begin.{setup_of}
use Rattle.otm_kit.specs.Declarations.{Declared, label_place, gateway_place}

abbrev pub writer_place : Declared → List ℕ → Option ℕ
writer_place d label = label_place d.writer_labels label

abbrev pub instrument_place : Declared → List ℕ → Option ℕ
instrument_place d label = label_place d.instrument_labels label

-- what a word of the line names, or what is wrong with it
abbrev pub writer_at : Declared → List ℕ → ℕ → Result ℕ Reason
writer_at d label i = ok_or (writer_place d label) (reason.NoWriter i)

abbrev pub instrument_at : Declared → List ℕ → ℕ → Result ℕ Reason
instrument_at d label i = ok_or (instrument_place d label) (reason.NoInstrument i)

abbrev pub gateway_at : Declared → ℕ → ℕ → Result ℕ Reason
gateway_at d id i = ok_or (gateway_place d.gateways id) (reason.NoGateway i)

-- the event of a command, where its labels and ids are declared
unfoldable pub event_of : Declared → Command → Result Event Reason
event_of d (command.Measure writer instrument value attrs) = writer_at d writer 1 >>= λ w. instrument_at d instrument 2 >>= λ i. Ok (event.Measure w i attrs value)
event_of d (command.Collect writer time) = writer_at d writer 1 >>= λ w. Ok (event.Collect w time)
event_of d (command.Shutdown writer time) = writer_at d writer 1 >>= λ w. Ok (event.Shutdown w time)
event_of d (command.Restart writer start) = writer_at d writer 1 >>= λ w. Ok (event.Restart w start)
event_of d (command.Deliver export gateway) = gateway_at d gateway 2 >>= λ g. Ok (event.Deliver export g)
event_of d (command.Merge into from) = gateway_at d into 1 >>= λ g. gateway_at d from 2 >>= λ h. Ok (event.Merge g h)
event_of d (command.Send from to) = gateway_at d from 1 >>= λ g. gateway_at d to 2 >>= λ h. Ok (event.Send g h)
event_of d (command.Hand mail gateway) = gateway_at d gateway 2 >>= λ g. Ok (event.Hand mail g)

abbrev pub command_in : Line → Option Command
command_in (line.Do command) = Some command
command_in _ = None

-- the commands of lines
unfoldable pub commands : List Line → List Command
commands lines = filter_map command_in lines

-- what happened by commands: their events that were accepted
unfoldable pub deeds_of_commands : Declared → List Command → Deeds
deeds_of_commands d cs = deeds (setup_of d) (filter_map (λ c. result_ok (event_of d c)) cs)
