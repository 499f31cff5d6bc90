use Rattle.gateway_kit.specs.Weave.{by_key}
use Rattle.gateway_kit.proofs.Ahead.{go_below}
use Rattle.gateway_kit.proofs.Entries.{as_T}
use Rattle.gateway_kit.proofs.Seeking.{none_below}
use Rattle.gateway_kit.proofs.weave.front_below.Goals as goal

pub returns-clause-before : goal.returns-clause-before
returns-clause-before g c =
    let K = g.T.Keyed in
    let front = c.as_slices.result.0.now in
    let told = c.skip_below.ensures in
    go_below g.met.T.Keyed.total g.met.T.Keyed.exact K.entry c.skip_below.result front c.as_slices.result.1.now c.args.mine.now.items c.args.value.now c.as_slices.ensures.items (as_T c.requires) told.within
    (told.below (none_below (by_key K.compare K.entry) front c.args.value.now))
