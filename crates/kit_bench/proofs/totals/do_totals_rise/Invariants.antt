use Rattle.writer_kit.specs.Shared.{IsAt}
use Rattle.kit_bench.proofs.totals.do_totals_rise.Given as goal

abbrev pub invariant-loop-time : goal.invariant-loop-time
invariant-loop-time g l = IsAt l.shared l.seat
