use Rattle.std.proofs.Common.{◌≡◌}
use Rattle.gateway_kit.specs.Walks.{points_left}
use Rattle.rollup_kit.specs.Streams.{streams_held, with_streams}
use Rattle.rollup_kit.proofs.streams.streams_of.Given as goal

abbrev pub invariant-loop-point : goal.invariant-loop-point
invariant-loop-point l =
    (goal.iterator-loop-point).can_next l.point-iterator × (goal.iterator-loop-point).is_finite l.point-iterator
    × (with_streams l.seen.keys (points_left l.point-iterator) ≡ streams_held l.gateway.points)
