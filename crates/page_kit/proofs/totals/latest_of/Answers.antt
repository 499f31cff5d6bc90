use Rattle.std.proofs.Common.{max}
use Rattle.page_kit.specs.Totals.{latest}
use Rattle.page_kit.proofs.Folded.{folded_all}
use Rattle.page_kit.proofs.totals.latest_of.Goals as goal

pub returns : goal.returns
unfolding latest
returns c = folded_all (λ most e. max most e.1.time) 0 c.args.points.now c.loop-point.point-index c.loop-point.latest c.loop-point-test.false c.loop-point.invariant
