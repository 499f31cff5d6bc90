use Rattle.std.proofs.Common.{◌≡◌, ◌≤◌, length, map, replicate, vec_capacity}
use Rattle.fleet_kit.specs.Jobs.{as_entry}
use Rattle.otm_kit.specs.FleetSetups.{one}
use Rattle.otm_kit.proofs.fleet_setup.filled_job.Given as goal

abbrev pub invariant-loop-entry : goal.invariant-loop-entry
invariant-loop-entry l = (map as_entry l.entries.items ≡ replicate l._entry one) × (length l.entries.items ≡ l._entry) × (l.each ≤ vec_capacity l.entries)
