use Rattle.rollup_kit.proofs.Counts.{AreAdded}
use Rattle.rollup_kit.proofs.buckets.Buckets.add.Given as goal

abbrev pub invariant-loop-place : goal.invariant-loop-place
invariant-loop-place l = AreAdded l.place l.initial.self-inside.counts.items l.self-inside.counts.items l.counts
