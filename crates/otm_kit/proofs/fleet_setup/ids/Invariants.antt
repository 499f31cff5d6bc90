use Rattle.std.proofs.Common.{◌≡◌}
use Rattle.otm_kit.specs.FleetTexts.{fleet_ids}
use Rattle.otm_kit.proofs.fleet_setup.ids.Given as goal

abbrev pub invariant-loop-place : goal.invariant-loop-place
invariant-loop-place l = l.ids.items ≡ fleet_ids l.place
