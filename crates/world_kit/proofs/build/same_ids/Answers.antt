use Rattle.std.proofs.Common.{◌∙◌, sym, slice_index, None, Some}
use Rattle.world_kit.proofs.Firsts.{twice_here, not_twice_here, first_new, from_start}
use Rattle.world_kit.proofs.build.same_ids.Goals as goal

pub returns-in-Some : goal.returns-in-Some
returns-in-Some c =
    let ids = c.args.ids.now in
    let k = c.loop-place.place in
    let id = slice_index ids k in
    let found = from_start _ id (Some c.in-Some.first) (sym c.in-Some.is ∙ c.in_ok-first.ensures.old ∙ c.loop-place.invariant.seen id) in
    sym (c.loop-place.invariant.so ∙ twice_here ids k c.in-Some.first c.loop-place-test.true found)

pub loop-place-preserved : goal.loop-place-preserved
loop-place-preserved c =
    let ids = c.args.ids.now in
    let k = c.loop-place.place in
    let id = slice_index ids k in
    let none = sym c.in_default.is ∙ c.in_ok-first.ensures.old ∙ c.loop-place.invariant.seen id in
    record {
      so = c.loop-place.invariant.so ∙ not_twice_here ids k c.loop-place-test.true (from_start _ id None none);
      seen = λ q. first_new ids k q _ _ c.loop-place-test.true (sym none) (c.loop-place.invariant.seen q) (c.in_ok-first.ensures.updates.0 q);
    }
