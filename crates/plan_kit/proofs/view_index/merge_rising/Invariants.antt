use Rattle.std.proofs.Common.{◌≡◌, ◌+◌, ◌++◌, length}
use Rattle.plan_kit.specs.Matching.{merge}
use Rattle.plan_kit.proofs.view_index.merge_rising.Given as goal

abbrev pub invariant-loop-first : goal.invariant-loop-first
invariant-loop-first l = l.all.items ++ merge l.left l.right ≡ merge l.fn.left l.fn.right

abbrev pub decreases-loop-first : goal.decreases-loop-first
decreases-loop-first l = length l.left + length l.right
