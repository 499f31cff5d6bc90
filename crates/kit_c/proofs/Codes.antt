-- Which refusals have the code of want of memory.
use Rattle.std.proofs.Common.{◌≡◌, refl}
use Rattle.recorder_kit.specs.declared.fault.RecordFault.{RecordFault}
use Rattle.recorder_kit.specs.declared.fault.RecordFault.TheVariants as records
use Rattle.agg_kit.specs.declared.fault.TallyFault.TheVariants as tallies
use Rattle.writer_kit.specs.declared.fault.CollectFault.{CollectFault}
use Rattle.writer_kit.specs.declared.fault.CollectFault.TheVariants as collections
use Rattle.writer_kit.specs.declared.fault.MeasureFault.{MeasureFault}
use Rattle.writer_kit.specs.declared.fault.MeasureFault.TheVariants as recordings
use Rattle.writer_kit.specs.declared.fault.RestartFault.{RestartFault}
use Rattle.writer_kit.specs.declared.fault.RestartFault.TheVariants as restarts
use Rattle.kit_c.specs.Codes.{collection_code, no_memory, record_code, recording_code, restart_code}

pub memory_of_recording : (f : MeasureFault) → recording_code f ≡ no_memory → f ≡ recordings.Refused tallies.NoMemory
memory_of_recording recordings.Closed e = cc
memory_of_recording (recordings.Refused tallies.NoHeld) e = cc
memory_of_recording (recordings.Refused tallies.NoInstrument) e = cc
memory_of_recording (recordings.Refused tallies.Negative) e = cc
memory_of_recording (recordings.Refused (tallies.Overflow stream)) e = cc
memory_of_recording (recordings.Refused tallies.NoMemory) e = refl

pub memory_of_collection : (f : CollectFault) → collection_code f ≡ no_memory → f ≡ collections.NoMemory
memory_of_collection collections.Closed e = cc
memory_of_collection (collections.TimeNotAfter last) e = cc
memory_of_collection collections.NoMemory e = refl

pub memory_of_restart : (f : RestartFault) → restart_code f ≡ no_memory → f ≡ restarts.NoMemory
memory_of_restart (restarts.StartNotAfter start) e = cc
memory_of_restart restarts.NoMemory e = refl

pub memory_of_record : (f : RecordFault) → record_code f ≡ no_memory → f ≡ records.NoMemory
memory_of_record records.Full e = cc
memory_of_record records.NoMemory e = refl
