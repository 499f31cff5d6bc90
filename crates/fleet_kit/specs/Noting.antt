-- What a recorder notes of its job, and what its writer takes in of that.
use Rattle.std.specs.Prelude.{◌≡◌, ◌≤◌, ◌<◌, ◌+◌, ◌++◌, ℕ, Bool, false, List, [], length, slice_get, take, Some}
use Rattle.agg_kit.specs.Entries.{Entry}
use Rattle.recorder_kit.specs.Log.{Recording}
use Rattle.turn_kit.specs.declared.seat.Seat.{Seat}
use Rattle.turn_kit.specs.History.{by}
use Rattle.turn_kit.specs.Public.{joined, mine, number, seen}
use Rattle.writer_kit.specs.Following.{Follows}
use Rattle.writer_kit.specs.Shared.{IsAt, first_of, most_of}
use Rattle.writer_kit.specs.Written.{Written}
use Rattle.writer_kit.specs.declared.shared.change.WriterChange.{WriterChange}
use Rattle.writer_kit.specs.declared.shared.writer.SharedWriter.{SharedWriter}
use Rattle.fleet_kit.specs.Ends.{HasRefused, LetPass}
use Rattle.fleet_kit.specs.Jobs.{entries, noted}
use Rattle.fleet_kit.specs.Recorded.{recorded_at}
use Rattle.fleet_kit.specs.declared.halt.Halt.{Halt}
use Rattle.fleet_kit.specs.declared.halt.Halt.TheVariants.{GateShut, Refused, NoThread, Missing, NoMemory}
use Rattle.fleet_kit.specs.declared.setup.Job.{Job}

module _ (passes : ℕ → ℕ → Bool → Type 0) (n : ℕ) (j : Job) where
  -- the log has the entries of the job from a place on, as many as were noted, and the gate let each pass
  pub record IsNoted (from : ℕ) (rs : List Recording) : Type 0 where
    pub es : List Entry
    pub notes : rs ≡ noted es
    pub next : take from (entries j) ++ es ≡ take (from + length es) (entries j)
    pub there : from + length es ≤ length j.entries.items
    pub passed : LetPass passes n from → LetPass passes n (from + length es)

  -- noting stopped at an entry: the gate let it not pass, or memory was wanting
  abbrev pub StopsNoting : ℕ → Halt → Type 0
  StopsNoting entry (GateShut job) = (job ≡ n) × (entry < length j.entries.items) × passes n entry false
  StopsNoting entry (Refused job other) = ⊥
  StopsNoting entry NoThread = ⊥
  StopsNoting entry (Missing gateway writer) = ⊥
  StopsNoting entry NoMemory = Unit {0}

-- the writer that is shared was new
abbrev pub BeganNew : {G : Type 0} → SharedWriter G → Type 0
BeganNew shared = Follows (first_of shared).start [] (first_of shared)

module _ {G : Type 0} {g : _} (shared : SharedWriter G) where
  -- the seat has seen all its own changes, and none joined it
  abbrev pub IsSingle : Seat Written WriterChange g → Type 0
  IsSingle s = IsAt shared s × (by (number s) (seen s) ≡ mine s) × (joined s ≡ [])

  -- what a seat has recorded
  abbrev pub recorded_by_seat : Seat Written WriterChange g → List Entry
  recorded_by_seat s = recorded_at (first_of shared).tally (seen s) (number s)

  -- it has recorded these entries more
  abbrev pub RecordsMore : List Entry → Seat Written WriterChange g → Seat Written WriterChange g → Type 0
  RecordsMore es s t = recorded_by_seat t ≡ recorded_by_seat s ++ es

  -- it has recorded some entries more from the front of these, and at least one is left
  abbrev pub RecordsPart : List Entry → Seat Written WriterChange g → Seat Written WriterChange g → Type 0
  RecordsPart es s t = (m : ℕ) × (m < length es) × RecordsMore (take m es) s t

  -- it has seen as many changes as the writer accepts
  abbrev pub IsFilled : Seat Written WriterChange g → Type 0
  IsFilled s = most_of shared ≤ length (seen s)

  -- no thread is told only where there is no room
  abbrev pub TellsRoom : Seat Written WriterChange g → Halt → Type 0
  TellsRoom s h = h ≡ NoThread → IsFilled s

  -- why the writer may stop at what the job with this number had noted, beginning with this entry: the plan refuses one of it, or memory or
  -- room was wanting
  abbrev pub StopsTaking : Seat Written WriterChange g → ℕ → ℕ → List Entry → Halt → Type 0
  StopsTaking s n from es (GateShut job) = ⊥
  StopsTaking s n from es (Refused job entry) = (job ≡ n) × (place : ℕ) × (entry ≡ from + place) × (e : Entry) × (slice_get es place ≡ Some e)
      × HasRefused (first_of shared).tally.plan (first_of shared).start (recorded_by_seat s ++ take place es) e
  StopsTaking s n from es NoThread = Unit {0}
  StopsTaking s n from es (Missing gateway writer) = ⊥
  StopsTaking s n from es NoMemory = Unit {0}
