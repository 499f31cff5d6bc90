use Rattle.std.proofs.Common.{◌≡◌, ◌<◌, map, take}
use Rattle.plan_kit.specs.Plans.{AreApart}
use Rattle.round_kit.specs.Rounds.{point_of, points_of}
use Rattle.round_kit.proofs.round.place.Given as goal

abbrev pub invariant-loop-number : goal.invariant-loop-number
invariant-loop-number l = record {
  placed : map point_of l.points.items ≡ points_of (take l.number l.tally.plan.streams) (take l.number l.tally.series);
  apart : 0 < l.number → AreApart l.tally.plan.streams;
}
