-- Why a writer refuses, memory aside.
use Rattle.std.specs.Prelude.{ℕ, List, [], ◌∷◌, nat_le, Option, is_none}
use Rattle.std.specs.Option.{option_map}
use Rattle.attr_kit.specs.Refusing.{first, when}
use Rattle.agg_kit.specs.Entries.{Entry}
use Rattle.agg_kit.specs.Refusals.{first_refusal}
use Rattle.agg_kit.specs.declared.fault.TallyFault.TheVariants as tallies
use Rattle.plan_kit.specs.Plans.{kind_of}
use Rattle.recorder_kit.specs.Log.{Recording, early_fault_at, fault_at}
use Rattle.writer_kit.specs.Written.{Written}
use Rattle.writer_kit.specs.declared.fault.CollectFault.{CollectFault}
use Rattle.writer_kit.specs.declared.fault.CollectFault.TheVariants as collect
use Rattle.writer_kit.specs.declared.fault.MeasureFault.{MeasureFault}
use Rattle.writer_kit.specs.declared.fault.MeasureFault.TheVariants as measure
use Rattle.writer_kit.specs.declared.fault.RestartFault.{RestartFault}
use Rattle.writer_kit.specs.declared.fault.RestartFault.TheVariants as restart

-- want of memory for a recording
abbrev pub no_memory : MeasureFault
no_memory = measure.Refused tallies.NoMemory

-- why a recording is refused where the writer's points stand for the recordings h: it is closed, or else what its tally refuses
unfoldable pub measure_fault : Written → List Entry → Entry → Option MeasureFault
measure_fault w h e = first (when w.closed measure.Closed ∷ option_map (λ f. measure.Refused f) (first_refusal w.tally.plan h e) ∷ [])

-- the same by the points of the writer, at a held point too
unfoldable pub fault_now : Written → Recording → Option MeasureFault
fault_now w r = first (when w.closed measure.Closed ∷ option_map (λ f. measure.Refused f) (fault_at w.tally r) ∷ [])

-- the same of the feeds before the first that copies what it keeps of the set: what is looked for before memory is wanted
unfoldable pub early_fault : Written → Recording → Option MeasureFault
early_fault w r = first (when w.closed measure.Closed ∷ option_map (λ f. measure.Refused f) (early_fault_at w.tally r) ∷ [])

-- why an instrument and a set are not held: the writer is closed, or else there is no such instrument
unfoldable pub hold_fault : Written → ℕ → Option MeasureFault
hold_fault w i = first (when w.closed measure.Closed ∷ when (is_none (kind_of w.tally.plan i)) (measure.Refused tallies.NoInstrument) ∷ [])

-- why a collection is refused: the writer is closed, or else the time is not after the last
unfoldable pub collect_fault : Written → ℕ → Option CollectFault
collect_fault w time = first (when w.closed collect.Closed ∷ when (nat_le time w.last) (collect.TimeNotAfter w.last) ∷ [])

-- why a restart is refused: the new start is not after the start
unfoldable pub restart_fault : Written → ℕ → Option RestartFault
restart_fault w start = first (when (nat_le start w.start) (restart.StartNotAfter w.start) ∷ [])
