use Rattle.std.proofs.Common.{◌<◌, length, rules}
use Rattle.test_kit.proofs.Taking.{takes_next}
use Rattle.test_kit.proofs.texts.table_of.Goals as goal

pub loop-export-preserved : goal.loop-export-preserved
loop-export-preserved c =
    let there : c.loop-export.export-index < length c.args.exports.now = search rules in
    takes_next c.args.exports.now c.loop-export.export-index c.export-item.result _ _ there c.export-item.is c.loop-export.invariant c.in_ok-take.ensures.ok
