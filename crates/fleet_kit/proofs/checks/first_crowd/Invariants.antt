use Rattle.std.proofs.Common.{◌≡◌, ◌-◌}
use Rattle.fleet_kit.specs.Checks.{crowded_from}
use Rattle.fleet_kit.proofs.checks.first_crowd.Given as goal

abbrev pub invariant-loop-place : goal.invariant-loop-place
invariant-loop-place l = crowded_from l.jobs 0 l.writers ≡ crowded_from l.jobs l.place (l.writers - l.place)
