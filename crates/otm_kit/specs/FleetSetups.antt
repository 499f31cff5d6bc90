-- The setup of the program's fleet, and what is asked of its gateways.
use Rattle.std.specs.Prelude.{◌≡◌, ◌≢◌, ◌⊎◌, ◌+◌, ◌≤◌, ℕ, Bool, zero, suc, pos, List, [], ◌∷◌, ◌++◌, codes, replicate, None, Some, true}
use Rattle.std.specs.Int.{to_be_bytes, w128}
use Rattle.std.specs.Vec.{vec_capacity}
use Rattle.agg_kit.specs.Entries.{Entry, entry_of}
use Rattle.attr_kit.specs.declared.keep.Keep.TheVariants.{Only}
use Rattle.fleet_kit.specs.Checks.{setup_fault}
use Rattle.fleet_kit.specs.Faults.{IsLate}
use Rattle.fleet_kit.specs.Setups.{tasks_of}
use Rattle.fleet_kit.specs.declared.fault.FleetFault.{FleetFault}
use Rattle.fleet_kit.specs.declared.fault.FleetFault.TheVariants.{NoMemory}
use Rattle.fleet_kit.specs.declared.setup.FleetSetup.{FleetSetup}
use Rattle.fleet_kit.specs.declared.setup.Job.{Job}
use Rattle.plan_kit.specs.Feeds.{plan_of}
use Rattle.plan_kit.specs.Plans.{Planned}
use Rattle.plan_kit.specs.declared.instrument.Instrument.{Instrument}
use Rattle.plan_kit.specs.declared.instrument.Kind.TheVariants.{Counter}
use Rattle.point_kit.specs.declared.shape.Shape.TheVariants.{Sum}
use Rattle.point_kit.specs.declared.writer_id.WriterId.{WriterId}
use Rattle.rollup_kit.specs.Fleets.{Task}
use Rattle.rollup_kit.specs.declared.ask.Ask.{Ask}
use Rattle.otm_kit.specs.FleetTexts.{fleet_ids}

abbrev pub counter : Instrument
counter = record { scope = codes "fleet"; name = codes "recordings"; unit = codes "1"; kind = Counter }

-- the plan of every writer: the counter, without views
abbrev pub fleet_plan : Planned
fleet_plan = plan_of (counter ∷ []) [] 2000

-- a recording of 1, without attributes
abbrev pub one : Entry
one = entry_of 0 [] (pos 1)

-- the job of a recorder of the writer at a place
abbrev pub fleet_task : ℕ → ℕ → Task
fleet_task each writer = record { writer = writer; entries = replicate each one }

-- the jobs of the first writers, so many of each
abbrev pub fleet_tasks : ℕ → ℕ → ℕ → List Task
fleet_tasks zero recorders each = []
fleet_tasks (suc n) recorders each = fleet_tasks n recorders each ++ replicate recorders (fleet_task each n)

-- a job without entries has room for so many
abbrev pub HasRoom : ℕ → Job → Type 0
HasRoom each j = (j.entries.items ≡ []) × (each ≤ vec_capacity j.entries)

-- what it brings to its writer once it has them
abbrev pub task_once_filled : ℕ → Job → Task
task_once_filled each j = fleet_task each j.writer

-- the writer at a place: its service is `fleet`, its instance the place and 1, and it starts at 1
abbrev pub fleet_writer : ℕ → WriterId × Planned × ℕ
fleet_writer place = (record { service = codes "fleet"; instance = to_be_bytes w128 (place + 1) }, fleet_plan, 1)

-- the first writers, so many
abbrev pub fleet_writers : ℕ → List (WriterId × Planned × ℕ)
fleet_writers zero = []
fleet_writers (suc n) = fleet_writers n ++ fleet_writer n ∷ []

-- the first writers, so many recorders with so many recordings each for every writer, and gateways of the first ids; it ends at 2
pub record IsFleetSetup (writer_count recorders each gateway_count : ℕ) (s : FleetSetup) : Type 0 where
  pub writers : s.writers.items ≡ fleet_writers writer_count
  pub jobs : tasks_of s ≡ fleet_tasks writer_count recorders each
  pub gateways : s.gateways.items ≡ fleet_ids gateway_count
  pub ends : s.end ≡ 2

-- what a gate answers that is never shut
abbrev pub LetsPass : ℕ → ℕ → Bool → Type 0
LetsPass job entry answer = answer ≡ true

-- a fleet of this setup, whose gate is never shut, may end with this fault
abbrev pub EndsBy : FleetSetup → FleetFault → Type 0
EndsBy s f = (setup_fault s ≡ Some f) ⊎ ((setup_fault s ≡ None) × IsLate LetsPass s f)

-- a fault of the program's fleet that is told: one of its setup, or one that came later, and not want of memory
pub record IsToldFault (writer_count recorders each gateway_count : ℕ) (f : FleetFault) : Type 0 where
  pub s : FleetSetup
  pub setup : IsFleetSetup writer_count recorders each gateway_count s
  pub ends : EndsBy s f
  pub other : f ≢ NoMemory

-- the counter's stream, of any service, in one row
abbrev pub fleet_ask : Ask
fleet_ask = record {
  stream = record { scope = codes "fleet"; name = codes "recordings"; unit = codes "1"; shape = Sum true };
  service = None;
  only = [];
  keep = Only [];
}
