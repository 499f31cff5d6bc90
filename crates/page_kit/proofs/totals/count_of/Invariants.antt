use Rattle.std.proofs.Common.{◌≡◌, ◌*◌, ◌^◌, ◌≤◌, take}
use Rattle.std.specs.List.{sum_by}
use Rattle.page_kit.specs.Totals.{count_in}
use Rattle.page_kit.proofs.totals.count_of.Given as goal

abbrev pub invariant-loop-point : goal.invariant-loop-point
invariant-loop-point l = (l.count ≡ sum_by (λ p. count_in p.cell.now.held) (take l.point-index l.points)) × (l.count ≤ 2 ^ 64 * l.point-index)
