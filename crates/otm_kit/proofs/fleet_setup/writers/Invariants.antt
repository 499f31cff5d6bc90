use Rattle.std.proofs.Common.{◌≡◌}
use Rattle.otm_kit.specs.FleetSetups.{fleet_writers}
use Rattle.otm_kit.proofs.fleet_setup.writers.Given as goal

abbrev pub invariant-loop-place : goal.invariant-loop-place
invariant-loop-place l = l.writers.items ≡ fleet_writers l.place
