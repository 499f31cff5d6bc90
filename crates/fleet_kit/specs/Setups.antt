-- The setup of a fleet: its writers by their places, and what its jobs record.
use Rattle.std.specs.Prelude.{ℕ, ◌≡◌, ◌<◌, Bool, List, [], length, map, slice_index_or, slice_get, Some}
use Rattle.agg_kit.specs.Entries.{Entry}
use Rattle.plan_kit.specs.Plans.{Planned, AreApart}
use Rattle.point_kit.specs.declared.export.Export.{Export}
use Rattle.point_kit.specs.declared.writer_id.WriterId.{WriterId}
use Rattle.rollup_kit.specs.Fleets.{Task, entries_of, collection_of, IsExportOf}
use Rattle.rollup_kit.specs.Writers.{Writers}
use Rattle.schedule_kit.specs.Mixed.{AreMixed}
use Rattle.fleet_kit.specs.Ends.{AllEnd, StopsShort}
use Rattle.fleet_kit.specs.Jobs.{task_of}
use Rattle.fleet_kit.specs.declared.halt.Halt.{Halt}
use Rattle.fleet_kit.specs.declared.setup.FleetSetup.{FleetSetup}

-- what stands where there is no writer
abbrev pub no_writer : WriterId × Planned × ℕ
no_writer = (record { service = []; instance = [] }, record { instruments = []; streams = []; limit = 0 }, 0)

-- the writer at a place: its identity, its plan and its start
abbrev pub writer_at : FleetSetup → ℕ → WriterId × Planned × ℕ
writer_at s w = slice_index_or s.writers.items w no_writer

-- its plan and its start
abbrev pub plan_at : FleetSetup → ℕ → Planned
plan_at s w = (writer_at s w).1

abbrev pub start_at : FleetSetup → ℕ → ℕ
start_at s w = (writer_at s w).2

-- the writers by their places
abbrev pub writers_of : FleetSetup → Writers
writers_of s = record { who = λ w. (writer_at s w).0; plan = λ w. (writer_at s w).1; starts = map (λ w. w.2) s.writers.items }

-- what the jobs bring to their writers
abbrev pub tasks_of : FleetSetup → List Task
tasks_of s = map task_of s.jobs.items

-- what the writer at a place is to record: the entries of all its jobs, in job order
abbrev pub entries_recorded : FleetSetup → ℕ → List Entry
entries_recorded s = entries_of (tasks_of s)

-- an export is that of the writer at a place, of its jobs' entries in some order; no stream of its plan stands twice
pub record IsExportAt (s : FleetSetup) (w : ℕ) (e : Export) : Type 0 where
  pub history : List Entry
  pub mixed : AreMixed history (entries_recorded s w)
  pub export : IsExportOf (writers_of s) (collection_of (writers_of s) s.end (λ _. history) w) e
  pub apart : AreApart (writer_at s w).1.streams

-- there is one for each writer, by its place
pub record AreExportsAt (s : FleetSetup) (es : List Export) : Type 0 where
  pub count : length es ≡ length s.writers.items
  pub each : (w : ℕ) (e : Export) → slice_get es w ≡ Some e → IsExportAt s w e

module _ (passes : ℕ → ℕ → Bool → Type 0) (s : FleetSetup) where
  -- each entry of each job of the writer at a place passed the gate and was recorded; or their recording stopped short for this reason
  abbrev pub AllEndAt : ℕ → Type 0
  AllEndAt place = AllEnd passes (plan_at s) (start_at s) (λ w. w ≡ place) s.jobs.items

  abbrev pub StopsAt : ℕ → Halt → Type 0
  StopsAt place = StopsShort passes (plan_at s) (start_at s) (λ w. w ≡ place) s.jobs.items

  -- each entry of each job passed the gate and was recorded by its writer
  abbrev pub AllEnded : Type 0
  AllEnded = AllEnd passes (plan_at s) (start_at s) (λ w. w < length s.writers.items) s.jobs.items

  -- the recording of all jobs stopped short for this reason
  abbrev pub StopsFleet : Halt → Type 0
  StopsFleet = StopsShort passes (plan_at s) (start_at s) (λ w. w < length s.writers.items) s.jobs.items
