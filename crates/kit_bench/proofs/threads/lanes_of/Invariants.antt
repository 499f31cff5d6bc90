use Rattle.writer_kit.specs.Shared.{IsAt}
use Rattle.kit_bench.proofs.threads.lanes_of.Given as goal

abbrev pub invariant-loop-way : goal.invariant-loop-way
invariant-loop-way g l = IsAt l.all.writer l.first
