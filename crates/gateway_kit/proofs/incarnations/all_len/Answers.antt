use Rattle.std.proofs.Common.{◌≡◌, ◌+◌, ◌<◌, length, sym, ap, ◌∙◌, arith}
use Rattle.std.proofs.lemmas.Grind.{common_steps}
use lib.ListN.{length-map}
use Rattle.std.specs.FinMap.{entries}
use Rattle.gateway_kit.specs.Keys.{keyed_cell_of}
use Rattle.gateway_kit.proofs.Recent.{all_points_few, all_points_more}
use Rattle.gateway_kit.proofs.incarnations.all_len.Goals as goal

pub overflow_add-len : goal.overflow_add-len
overflow_add-len c =
    let ps = c.args.incarnations.now.items in
    let within : c.loop-place.place < length ps = grind (arith, common_steps) in
    let long : length c.items.result.now ≡ length (entries c.get.result.now.cells) = sym (length-map c.items.result.now keyed_cell_of) ∙ ap length c.items.ensures.entries in
    let more = all_points_more ps c.loop-place.place c.get.result.now within c.get.ensures.value in
    let few = all_points_few ps (c.loop-place.place + 1) in
    let so_far = c.loop-place.invariant in
    omega (arith, long, more, few, so_far, c.requires)

pub loop-place-preserved : goal.loop-place-preserved
loop-place-preserved c =
    let ps = c.args.incarnations.now.items in
    let within : c.loop-place.place < length ps = grind (arith, common_steps) in
    let long : length c.items.result.now ≡ length (entries c.get.result.now.cells) = sym (length-map c.items.result.now keyed_cell_of) ∙ ap length c.items.ensures.entries in
    let more = all_points_more ps c.loop-place.place c.get.result.now within c.get.ensures.value in
    let so_far = c.loop-place.invariant in
    omega (arith, long, more, so_far)
