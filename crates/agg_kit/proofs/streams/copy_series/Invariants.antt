use Rattle.std.proofs.Common.{◌≡◌, take}
use Rattle.agg_kit.specs.Feeds.{entries_of}
use Rattle.agg_kit.proofs.streams.copy_series.Given as goal

abbrev pub invariant-loop-points : goal.invariant-loop-points
invariant-loop-points l = entries_of l.copy.items ≡ entries_of (take l.points-index l.series.items)
