-- Faults of a fleet.
use Rattle.std.specs.Prelude.{◌≢◌, ◌<◌, ℕ, Bool, [], length}
use Rattle.point_kit.specs.declared.export.Export.{Export}
use Rattle.fleet_kit.specs.Setups.{AllEnded, IsExportAt, StopsFleet}
use Rattle.fleet_kit.specs.declared.fault.FleetFault.{FleetFault}
use Rattle.fleet_kit.specs.declared.fault.FleetFault.TheVariants as faults
use Rattle.fleet_kit.specs.declared.halt.Halt.{Halt}
use Rattle.fleet_kit.specs.declared.halt.Halt.TheVariants as halts
use Rattle.fleet_kit.specs.declared.setup.FleetSetup.{FleetSetup}

-- why a thread stopped short, as a fault
abbrev pub fault_of_halt : Halt → FleetFault
fault_of_halt (halts.GateShut job) = faults.GateShut job
fault_of_halt (halts.Refused job entry) = faults.Refused job entry
fault_of_halt halts.NoThread = faults.NoThread
fault_of_halt (halts.Missing gateway writer) = faults.Missing gateway writer
fault_of_halt halts.NoMemory = faults.NoMemory

-- the writer at a place has a collection with points: of its jobs' entries, in some order
abbrev pub HasRound : FleetSetup → ℕ → Type 0
HasRound s writer = (writer < length s.writers.items) × (e : Export) × IsExportAt s writer e × (e.points ≢ [])

-- A fault is none of the setup. Where it is one of jobs, of threads or of memory, the recording stopped short for it, and no job ended for
-- one that comes before it. Where a gateway lacks a writer, all jobs ended well, and the writer's round has points.
abbrev pub IsLate : (ℕ → ℕ → Bool → Type 0) → FleetSetup → FleetFault → Type 0
IsLate passes s (faults.NoWriter job) = ⊥
IsLate passes s (faults.SameWriter first second) = ⊥
IsLate passes s (faults.SameGateway first second) = ⊥
IsLate passes s (faults.EndNotAfter writer) = ⊥
IsLate passes s (faults.TooManyJobs writer) = ⊥
IsLate passes s (faults.GateShut job) = StopsFleet passes s (halts.GateShut job)
IsLate passes s (faults.Refused job entry) = StopsFleet passes s (halts.Refused job entry)
IsLate passes s faults.NoThread = StopsFleet passes s halts.NoThread
IsLate passes s (faults.Missing gateway writer) = (gateway < length s.gateways.items) × HasRound s writer × AllEnded passes s
IsLate passes s faults.NoMemory = StopsFleet passes s halts.NoMemory
