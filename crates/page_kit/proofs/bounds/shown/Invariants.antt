use Rattle.std.proofs.Common.{◌≡◌, ◌++◌, filter}
use Rattle.page_kit.specs.Bounds.{is_shown, rising}
use Rattle.page_kit.proofs.bounds.shown.Given as goal

abbrev pub invariant-loop-bound : goal.invariant-loop-bound
invariant-loop-bound l = l.shown.items ++ filter is_shown l.bound-iterator ≡ filter is_shown (rising l.bounds)
