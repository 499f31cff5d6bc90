use Rattle.std.proofs.Common.{◌≡◌, map}
use Rattle.otm_kit.specs.Begin.{with_plan}
use Rattle.otm_kit.proofs.begin.writers_of.Given as goal

abbrev pub invariant-loop-id : goal.invariant-loop-id
invariant-loop-id l = l.setups.items ≡ map (with_plan l.fn.plan) l.yielded
