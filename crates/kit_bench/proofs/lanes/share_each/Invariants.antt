use Rattle.writer_kit.specs.Shared.{IsAt}
use Rattle.kit_bench.proofs.lanes.share_each.Given as goal

abbrev pub invariant-loop : goal.invariant-loop
invariant-loop g l = IsAt l.shared l.seat
