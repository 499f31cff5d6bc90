use Rattle.std.proofs.Common.{◌≡◌, take, fold, None}
use Rattle.page_kit.specs.Totals.{newest_with}
use Rattle.page_kit.proofs.totals.newest_of.Given as goal

abbrev pub invariant-loop-point : goal.invariant-loop-point
invariant-loop-point l = l.newest ≡ fold (λ newest p. newest_with newest p.cell.now.time p.cell.now.held) None (take l.point-index l.points)
