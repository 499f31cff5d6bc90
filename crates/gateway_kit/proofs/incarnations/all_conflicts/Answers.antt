use Rattle.std.proofs.Common.{◌+◌, ◌<◌, length, arith}
use Rattle.std.proofs.lemmas.Grind.{common_steps}
use Rattle.std.proofs.lemmas.List.Sums.{sum_by-take-le}
use Rattle.gateway_kit.specs.Tallies.{incarnation_conflicts}
use Rattle.gateway_kit.proofs.Tallies.{incarnations_more}
use Rattle.gateway_kit.proofs.incarnations.all_conflicts.Goals as goal

pub overflow_add-conflicts : goal.overflow_add-conflicts
overflow_add-conflicts c =
    let ps = c.args.incarnations.now.items in
    let within : c.loop-place.place < length ps = grind (arith, common_steps) in
    let more = incarnations_more ps c.loop-place.place c.get.result.now within c.get.ensures.value in
    let few = sum_by-take-le incarnation_conflicts ps (c.loop-place.place + 1) in
    let so_far = c.loop-place.invariant in
    omega (arith, more, few, so_far, c.conflicts-conflicts.ensures, c.requires)

pub loop-place-preserved : goal.loop-place-preserved
loop-place-preserved c =
    let ps = c.args.incarnations.now.items in
    let within : c.loop-place.place < length ps = grind (arith, common_steps) in
    let more = incarnations_more ps c.loop-place.place c.get.result.now within c.get.ensures.value in
    let so_far = c.loop-place.invariant in
    omega (arith, more, so_far, c.conflicts-conflicts.ensures)
