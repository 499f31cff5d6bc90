use Rattle.std.proofs.Common.{◌≡◌, take, drop}
use Rattle.std.specs.Prelude.{nat_eq}
use Rattle.fleet_kit.specs.Checks.{first_tie, first_tie_from}
use Rattle.fleet_kit.proofs.checks.same_gateway.Given as goal

abbrev pub invariant-loop-place : goal.invariant-loop-place
invariant-loop-place l = first_tie nat_eq l.ids ≡ first_tie_from nat_eq (take l.place l.ids) (drop l.place l.ids)
