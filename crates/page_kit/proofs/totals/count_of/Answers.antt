use Rattle.std.proofs.Common.{◌+◌}
use Rattle.page_kit.specs.Totals.{count_in, count_of}
use Rattle.page_kit.proofs.Folded.{folded_all}
use Rattle.page_kit.proofs.totals.count_of.Goals as goal

pub returns : goal.returns
unfolding count_of
returns c = folded_all (λ count e. count + count_in e.1.held) 0 c.args.points.now c.loop-point.point-index c.loop-point.count c.loop-point-test.false c.loop-point.invariant.0
