use Rattle.std.proofs.Common.{◌<◌, length, rules}
use Rattle.archive_kit.proofs.Steps.{held_more}
use Rattle.archive_kit.proofs.held.points_held.Goals as goal

pub loop-item-preserved : goal.loop-item-preserved
loop-item-preserved c =
    let there : c.loop-item.item-index < length c.args.items.now = search rules in
    λ writer start. held_more writer start c.args.items.now c.loop-item.item-index c.item-item.result c.loop-item.points.items c.push_point.new.points.items
    there c.item-item.is (c.loop-item.invariant writer start) (c.in_ok-push_point.ensures writer start)
