use Rattle.world_kit.specs.Building.{AreStarted}
use Rattle.world_kit.proofs.build.start.Given as goal

abbrev pub invariant-loop-setup : goal.invariant-loop-setup
invariant-loop-setup l = AreStarted l.yielded l.writers.items
