use Rattle.std.proofs.Common.{take}
use Rattle.plan_kit.specs.Matching.{IsIndex}
use Rattle.plan_kit.proofs.view_index.ViewIndex.build.Given as goal

abbrev pub invariant-loop-place : goal.invariant-loop-place
invariant-loop-place l = IsIndex l.drops l.exact l.every.items (take l.place l.views)
