use Rattle.std.proofs.Common.{◌≡◌, [], replicate}
use Rattle.agg_kit.specs.Feeds.{entries_of}
use Rattle.agg_kit.proofs.streams.no_points.Given as goal

abbrev pub invariant-loop-stream : goal.invariant-loop-stream
invariant-loop-stream l = entries_of l.series.items ≡ replicate l._stream []
