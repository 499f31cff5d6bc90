use Rattle.std.proofs.Common.{arith}
use Rattle.std.proofs.lemmas.Grind.{common_steps}
use Rattle.archive_kit.proofs.Kept.{distinct_add}
use Rattle.archive_kit.proofs.totals.add_totals.Goals as goal
use Rattle.archive_kit.proofs.totals.add_totals.Goals.{else-not-is_gauge-via-then-not-is_gauge+in_ok-add_total+else-not-branch, else-not-is_gauge-via-else-not-is_gauge}

pub loop-point-preserved : goal.loop-point-preserved
loop-point-preserved c = elim c.else-not-is_gauge.branch [
  | else-not-is_gauge-via-then-not-is_gauge+in_ok-add_total+else-not-branch w ↦
      (grind (arith, common_steps), grind (arith, common_steps), grind (arith, common_steps, distinct_add))
  | else-not-is_gauge-via-else-not-is_gauge w ↦ (grind (arith, common_steps), grind (arith, common_steps), grind (arith, common_steps))
]
