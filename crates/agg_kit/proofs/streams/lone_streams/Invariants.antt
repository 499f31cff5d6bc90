use Rattle.std.proofs.Common.{◌≡◌, length}
use Rattle.agg_kit.specs.Kept.{AreLone}
use Rattle.agg_kit.proofs.streams.lone_streams.Given as goal

abbrev pub invariant-loop-instrument : goal.invariant-loop-instrument
invariant-loop-instrument l = AreLone l.plan l.lone.items × (length l.lone.items ≡ l.instrument)
