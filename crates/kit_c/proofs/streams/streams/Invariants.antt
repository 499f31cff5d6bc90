use Rattle.std.proofs.Common.{◌≡◌, take}
use Rattle.kit_c.proofs.streams.streams.Given as goal

abbrev pub invariant-loop-number : goal.invariant-loop-number
invariant-loop-number l = l.copies.items ≡ take l.number l.plan.streams
