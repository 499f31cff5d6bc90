use Rattle.std.proofs.Common.{◌≡◌, take, drop}
use Rattle.fleet_kit.specs.Checks.{has_id_of, first_tie, first_tie_from}
use Rattle.fleet_kit.proofs.checks.same_writer.Given as goal

abbrev pub invariant-loop-place : goal.invariant-loop-place
invariant-loop-place l = first_tie has_id_of l.writers ≡ first_tie_from has_id_of (take l.place l.writers) (drop l.place l.writers)
