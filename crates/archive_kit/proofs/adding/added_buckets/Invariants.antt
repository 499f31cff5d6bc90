use Rattle.archive_kit.proofs.Steps.{AreAdding}
use Rattle.archive_kit.proofs.adding.added_buckets.Given as goal

abbrev pub invariant-loop-place : goal.invariant-loop-place
invariant-loop-place l = AreAdding l.sums.items l.counts l.more l.place
