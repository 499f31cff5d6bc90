use Rattle.gateway_kit.proofs.Turning.{AreTurning}
use Rattle.gateway_kit.proofs.weave.weave_within.Given as goal

-- what was turned in stands where it belongs
abbrev pub invariant-loop-left : goal.invariant-loop-left
invariant-loop-left g l = AreTurning g.met.T.Keyed.total g.met.T.Keyed.exact g.T.Keyed.entry l.fn.mine.items l.fn.few.items l.mine.items l.above l.left

abbrev pub decreases-loop-left : goal.decreases-loop-left
decreases-loop-left g l = l.left
