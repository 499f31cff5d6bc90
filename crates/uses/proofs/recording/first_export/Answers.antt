use Rattle.std.proofs.Common.{rules}
use Rattle.uses.proofs.Covered.{covered}
use Rattle.uses.proofs.recording.first_export.Goals as goal

pub returns : goal.returns
returns c =
    let its = c.in_ok-writer.ensures in
    let three = c.in_ok-measure.ensures in
    let four = c.in_ok-measure-2.ensures in
    let copy = c.in_ok-copy_out.ensures in
    covered c.args.id c.args.plan c.empty-none.result _ _ _ _ _ c.empty-none.ensures its.plan its.follows three.ok three.value four.ok four.value
    c.in_ok-round.ensures.round (search rules) copy.start copy.taken_at copy.points
