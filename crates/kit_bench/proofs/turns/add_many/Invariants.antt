use Rattle.turn_kit.specs.Public.{IsOf}
use Rattle.kit_bench.proofs.turns.add_many.Given as goal

abbrev pub invariant-loop : goal.invariant-loop
invariant-loop g l = IsOf l.turn l.seat
