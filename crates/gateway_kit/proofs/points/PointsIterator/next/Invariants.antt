use Rattle.std.proofs.Common.{◌≡◌, length}
use Rattle.shelf_kit.specs.Walks.{walk_left}
use Rattle.gateway_kit.specs.Walks.{points_left}
use Rattle.gateway_kit.proofs.points.PointsIterator.next.Given as goal

-- nothing is lost where an incarnation is passed over
abbrev pub invariant-loop-point : goal.invariant-loop-point
invariant-loop-point l = points_left l.fn.self ≡ points_left l.self

abbrev pub decreases-loop-point : goal.decreases-loop-point
decreases-loop-point l = length (walk_left l.self.ahead)
