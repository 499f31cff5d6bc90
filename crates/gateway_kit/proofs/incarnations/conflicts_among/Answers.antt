use Rattle.std.proofs.Common.{◌<◌, length, arith}
use Rattle.std.proofs.lemmas.Grind.{common_steps}
use Rattle.gateway_kit.proofs.Tallies.{incarnations_more}
use Rattle.gateway_kit.proofs.incarnations.conflicts_among.Goals as goal

pub loop-incarnation-preserved : goal.loop-incarnation-preserved
loop-incarnation-preserved c =
    let within : c.loop-incarnation.incarnation-index < length c.args.incarnations.now = grind (arith, common_steps) in
    let more = incarnations_more c.args.incarnations.now c.loop-incarnation.incarnation-index c.incarnation-item.result within c.incarnation-item.is in
    let so_far = c.loop-incarnation.invariant in
    omega (arith, more, so_far, c.conflicts-conflicts.ensures)
