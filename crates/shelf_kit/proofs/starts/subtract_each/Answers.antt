use Rattle.std.proofs.Common.{◌-◌, arith}
use Rattle.shelf_kit.proofs.Mapped.{mapped_more}
use Rattle.shelf_kit.proofs.starts.subtract_each.Goals as goal

pub loop-start-preserved : goal.loop-start-preserved
loop-start-preserved c = mapped_more (λ n. n - 1) c.args.starts.now c.loop-start.starts c.loop-start.start-index (omega arith) (omega arith) c.loop-start.invariant
