use Rattle.std.proofs.Common.{◌≡◌, ◌++◌, map}
use Rattle.gateway_kit.specs.Walks.{keyed_cell_of_ref, points_left}
use Rattle.rollup_kit.specs.Standing.{Stands}
use Rattle.rollup_kit.proofs.groups.gather_kept.Given as goal

abbrev pub invariant-loop-point : goal.invariant-loop-point
invariant-loop-point l =
    (goal.iterator-loop-point).can_next l.point-iterator × (goal.iterator-loop-point).is_finite l.point-iterator
    × (points_left l.fn.points ≡ map keyed_cell_of_ref l.yielded ++ points_left l.point-iterator) × Stands l.ask l.buckets (map keyed_cell_of_ref l.yielded) l.rows
