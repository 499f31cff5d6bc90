use Rattle.std.proofs.Common.{◌≡◌, take, fold, max}
use Rattle.page_kit.proofs.totals.born_of.Given as goal

abbrev pub invariant-loop-point : goal.invariant-loop-point
invariant-loop-point l = l.born ≡ fold (λ most p. max most p.start) 0 (take l.point-index l.points)
