-- The ends of a fleet's report that are told as faults of the fleet.
use Rattle.std.proofs.Common.{◌≡◌}
use Rattle.std.specs.Prelude.{◌≢◌}
use Rattle.fleet_kit.specs.declared.fault.FleetFault.{FleetFault}
use Rattle.fleet_kit.specs.declared.fault.FleetFault.TheVariants as faults
use Rattle.otm_kit.specs.FleetTexts.{end_of_fault}
use Rattle.otm_kit.specs.declared.fleet_end.FleetEnd.TheVariants as ends

-- a fault that is told is that of the fleet, and is none of memory
pub told_is : (came f : FleetFault) → end_of_fault came ≡ ends.Fleet f → (came ≡ f) × (f ≢ faults.NoMemory)
told_is (faults.NoWriter job) f e = (cc, λ q. absurd cc)
told_is (faults.SameWriter i j) f e = (cc, λ q. absurd cc)
told_is (faults.SameGateway i j) f e = (cc, λ q. absurd cc)
told_is (faults.EndNotAfter w) f e = (cc, λ q. absurd cc)
told_is (faults.TooManyJobs w) f e = (cc, λ q. absurd cc)
told_is (faults.GateShut job) f e = (cc, λ q. absurd cc)
told_is (faults.Refused job entry) f e = (cc, λ q. absurd cc)
told_is faults.NoThread f e = (cc, λ q. absurd cc)
told_is (faults.Missing gateway writer) f e = (cc, λ q. absurd cc)
told_is faults.NoMemory f e = absurd cc
