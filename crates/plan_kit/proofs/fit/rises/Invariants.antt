use Rattle.std.proofs.Common.{◌≡◌, ◌∷◌, drop}
use Rattle.plan_kit.specs.Bounds.{rise}
use Rattle.plan_kit.proofs.fit.rises.Given as goal

abbrev pub invariant-loop-number : goal.invariant-loop-number
invariant-loop-number l = rise l.fn.numbers ≡ rise (l.below ∷ drop l.number-index l.rest)
