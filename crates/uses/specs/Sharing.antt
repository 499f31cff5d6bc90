-- What threads record with one writer.
use Rattle.std.specs.Prelude.{◌≡◌, ℕ, ℤ, List, [], ◌∷◌, map}
use Rattle.agg_kit.specs.Entries.{entry_of}
use Rattle.recorder_kit.specs.Log.{Recording, ByName}
use Rattle.turn_kit.specs.History.{weigh, weigh_log}
use Rattle.turn_kit.specs.Public.{mine, joined}
use Rattle.turn_kit.specs.declared.seat.Seat.{Seat}
use Rattle.writer_kit.specs.Shared.{History, IsAt, Serves}
use Rattle.writer_kit.specs.Written.{Written}
use Rattle.writer_kit.specs.declared.shared.writer.SharedWriter.{SharedWriter}
use Rattle.writer_kit.specs.declared.shared.change.WriterChange.{WriterChange}
use Rattle.writer_kit.specs.declared.shared.change.WriterChange.TheVariants.{Measured, TakenIn}
use Rattle.uses.specs.declared.sharing.Way.{Way}
use Rattle.uses.specs.declared.sharing.Way.TheVariants.{OneByOne, ByLog}
use Rattle.uses.specs.declared.sharing.Work.{Work}

-- the recording of a value, as a change of the writer
abbrev pub change : Work → ℤ → WriterChange
change work v = Measured work.instrument work.attrs v

-- the recording of a value, in a log
abbrev pub noted : Work → ℤ → Recording
noted work v = ByName (entry_of work.instrument work.attrs v)

-- the log of a work's values
abbrev pub log_of : Work → List Recording
log_of work = map (noted work) work.values.items

-- the changes that a thread is to make: each value, or all in one log
abbrev pub changes_by : Way → Work → List WriterChange
changes_by OneByOne work = map (change work) work.values.items
changes_by ByLog work = TakenIn (log_of work) ∷ []

abbrev pub changes : Work → List WriterChange
changes work = changes_by work.way work

-- a seat of a shared writer that has made these changes, and has taken in no other seat
abbrev pub HasMade : {G : Type 0} {g : _} → SharedWriter G → List WriterChange → Seat Written WriterChange g → Type 0
HasMade shared made seat = IsAt shared seat × (mine seat ≡ made) × (joined seat ≡ [])

-- A writer is what one history makes of the first one, and that history has these changes, each as often: however changes are weighed, by number, by
-- value or by sort, it weighs what they do.
pub record HasRecorded (first : Written) (works : List WriterChange) (w : Written) : Type 0 where
  pub history : History
  pub serves : Serves first history w
  pub weighs : (f : WriterChange → ℕ) → weigh_log f history ≡ weigh f works
