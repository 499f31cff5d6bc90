-- Refusals of writers, as those of a world.
use Rattle.std.specs.Prelude.{ℕ, Bool, true, false, Option, None, Some}
use Rattle.world_kit.specs.declared.event.Event.{Event}
use Rattle.world_kit.specs.declared.event.Event.TheVariants as event
use Rattle.world_kit.specs.declared.event.Refusal.{Refusal}
use Rattle.world_kit.specs.declared.event.Refusal.TheVariants.{Closed, StartNotAfter, TimeNotAfter}
use Rattle.world_kit.specs.Judged.{refusal_of}
use Rattle.writer_kit.specs.declared.fault.CollectFault.{CollectFault}
use Rattle.writer_kit.specs.declared.fault.CollectFault.TheVariants as collect
use Rattle.writer_kit.specs.declared.fault.MeasureFault.{MeasureFault}
use Rattle.writer_kit.specs.declared.fault.MeasureFault.TheVariants as measure
use Rattle.writer_kit.specs.declared.fault.RestartFault.{RestartFault}
use Rattle.writer_kit.specs.declared.fault.RestartFault.TheVariants as restart

-- want of memory is none
abbrev pub measure_refusal : MeasureFault → Option Refusal
measure_refusal measure.Closed = Some Closed
measure_refusal (measure.Refused fault) = refusal_of fault

abbrev pub collect_refusal : CollectFault → Option Refusal
collect_refusal collect.Closed = Some Closed
collect_refusal (collect.TimeNotAfter last) = Some (TimeNotAfter last)
collect_refusal collect.NoMemory = None

abbrev pub restart_refusal : RestartFault → Option Refusal
restart_refusal (restart.StartNotAfter start) = Some (StartNotAfter start)
restart_refusal restart.NoMemory = None

-- a collection, or a shutdown where it closes
abbrev pub collect_event : ℕ → ℕ → Bool → Event
collect_event w time false = event.Collect w time
collect_event w time true = event.Shutdown w time
