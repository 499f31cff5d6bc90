use Rattle.std.proofs.Common.{arith}
use Rattle.std.proofs.lemmas.Int.{ints, to_z-of_z}
use Rattle.std.proofs.lemmas.List.Sums.{fold_more}
use Rattle.page_kit.proofs.totals.sum_of.Goals as goal

pub loop-point-preserved : goal.loop-point-preserved
loop-point-preserved c = (grind (arith, ints, to_z-of_z, fold_more), omega (arith, ints), omega (arith, ints))
