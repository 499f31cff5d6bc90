use Rattle.std.proofs.Common.{◌≡◌, ◌*◌, ◌^◌, take, fold, pos, neg_ℤ, ◌+ℤ◌, ◌≤ℤ◌}
use Rattle.page_kit.specs.Totals.{sum_in}
use Rattle.page_kit.proofs.totals.sum_of.Given as goal

abbrev pub invariant-loop-point : goal.invariant-loop-point
invariant-loop-point l =
    (l.sum ≡ fold (λ sum p. sum +ℤ sum_in p.cell.now.held) (pos 0) (take l.point-index l.points))
    × (neg_ℤ (pos (2 ^ 63 * l.point-index)) ≤ℤ l.sum) × (l.sum ≤ℤ pos (2 ^ 63 * l.point-index))
