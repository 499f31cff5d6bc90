use Rattle.std.proofs.Common.{◌≤◌, Ok, Err, length, sym, ◌∙◌, arith}
use Rattle.gateway_kit.specs.Weave.{by_key}
use Rattle.gateway_kit.proofs.Entries.{as_T}
use Rattle.gateway_kit.proofs.Places.{placed}
use Rattle.gateway_kit.proofs.Seeking.{above_here, all_below, below_here, tied_here}
use Rattle.gateway_kit.proofs.ordered.place_from.Goals as goal

pub loop-place-preserved : goal.loop-place-preserved
loop-place-preserved g c =
    let K = g.T.Keyed in
    record {
      within = c.skip_below-place.ensures.within;
      below = c.skip_below-place.ensures.below (below_here (by_key K.compare K.entry) c.args.values.now c.args.key.now c.loop-place.place c.index-values-place.result c.loop-place-test.true c.index-values-place.is (sym c.order.ensures ∙ c.in-Less.is));
    }

pub returns-in-Equal : goal.returns-in-Equal
returns-in-Equal g c =
    let K = g.T.Keyed in
    placed g.met.T.Keyed.total g.met.T.Keyed.exact K.entry (K.entry c.args.key.now).0 c.args.values.now (as_T c.requires) (Ok c.loop-place.place) c.loop-place-test.true
    (tied_here (by_key K.compare K.entry) c.args.values.now c.args.key.now c.loop-place.place c.index-values-place.result c.loop-place-test.true c.index-values-place.is (sym c.order.ensures ∙ c.in-Equal.is))

pub returns-in-Greater : goal.returns-in-Greater
returns-in-Greater g c =
    let K = g.T.Keyed in
    placed g.met.T.Keyed.total g.met.T.Keyed.exact K.entry (K.entry c.args.key.now).0 c.args.values.now (as_T c.requires) (Err c.loop-place.place) c.loop-place.invariant.within
    (above_here (by_key K.compare K.entry) c.args.values.now c.args.key.now c.loop-place.place c.index-values-place.result c.loop-place-test.true c.index-values-place.is (sym c.order.ensures ∙ c.in-Greater.is) c.loop-place.invariant.below)

pub returns : goal.returns
returns g c =
    let K = g.T.Keyed in
    let past : length c.args.values.now ≤ c.loop-place.place = omega (arith, c.loop-place-test.false) in
    placed g.met.T.Keyed.total g.met.T.Keyed.exact K.entry (K.entry c.args.key.now).0 c.args.values.now (as_T c.requires) (Err c.loop-place.place) c.loop-place.invariant.within
    (all_below (by_key K.compare K.entry) c.args.values.now c.args.key.now c.loop-place.place past c.loop-place.invariant.below)
