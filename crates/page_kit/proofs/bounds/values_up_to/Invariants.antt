use Rattle.std.proofs.Common.{◌≡◌, take}
use Rattle.std.specs.List.{sum_by}
use Rattle.gateway_kit.specs.Walks.{keyed_cell_of_ref}
use Rattle.page_kit.specs.Bounds.{bounds_in, buckets_in, count_up_to, within_room}
use Rattle.page_kit.proofs.bounds.values_up_to.Given as goal

abbrev pub invariant-loop-point : goal.invariant-loop-point
invariant-loop-point l = l.count ≡ within_room (sum_by (λ p. count_up_to l.bound (bounds_in (keyed_cell_of_ref p)) (buckets_in p.cell.now.held)) (take l.point-index l.points))
