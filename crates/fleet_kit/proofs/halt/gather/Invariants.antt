use Rattle.std.proofs.Common.{◌≡◌, None, Ok, map}
use Rattle.fleet_kit.proofs.Halts.{IsToldOf}
use Rattle.fleet_kit.proofs.halt.gather.Given as goal

abbrev pub invariant-loop-result : goal.invariant-loop-result
invariant-loop-result g l = (l.told ≡ None → map Ok l.answers.items ≡ l.yielded) × IsToldOf l.yielded l.told
