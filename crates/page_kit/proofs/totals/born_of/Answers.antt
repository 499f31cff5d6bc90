use Rattle.std.proofs.Common.{max}
use Rattle.page_kit.specs.Totals.{born}
use Rattle.page_kit.proofs.Folded.{folded_all}
use Rattle.page_kit.proofs.totals.born_of.Goals as goal

pub returns : goal.returns
unfolding born
returns c = folded_all (λ most e. max most e.0.start) 0 c.args.points.now c.loop-point.point-index c.loop-point.born c.loop-point-test.false c.loop-point.invariant
