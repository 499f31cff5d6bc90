-- Logs that a writer takes in.
use Rattle.std.specs.Prelude.{◌≡◌, ◌<◌, ◌≤◌, ◌+◌, ◌-◌, ℕ, List, length, take, drop, slice_get, Some}
use Rattle.recorder_kit.specs.Lines.{outcome_of}
use Rattle.recorder_kit.specs.Log.{Logged, Recording, WantsMemory, taken_in}
use Rattle.recorder_kit.specs.declared.taken.Taken.{Taken}
use Rattle.writer_kit.specs.Written.{Written}

-- the recordings that were looked at: those that are gone from the front of the log
abbrev pub gone : Logged → Logged → List Recording
gone r s = take (length r.log - length s.log) r.log

-- What is told of a log r that a writer takes in, which is s then. Each recording that is gone was recorded or refused. Where fewer are gone than were asked
-- for and one is left, memory may be refused for that one.
pub record IsTaken (w : Written) (r s : Logged) (most : ℕ) (k : Taken) : Type 0 where
  pub within : k.recorded + k.refused ≤ length r.log
  pub at_most : k.recorded + k.refused ≤ most
  pub rest : s ≡ record r { log = drop (k.recorded + k.refused) r.log }
  pub told : outcome_of (taken_in w.tally (gone r s)).tally k ≡ taken_in w.tally (gone r s)
  pub stopped : (x : Recording) → k.recorded + k.refused < most → slice_get r.log (k.recorded + k.refused) ≡ Some x
      → WantsMemory (taken_in w.tally (gone r s)).tally x
