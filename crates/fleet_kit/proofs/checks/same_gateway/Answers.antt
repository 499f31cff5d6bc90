use Rattle.std.proofs.Common.{slice_index, sym, ◌∙◌}
use Rattle.std.specs.Prelude.{nat_eq}
use Rattle.std.proofs.lemmas.Grind.{get_or_default_zero}
use Rattle.fleet_kit.proofs.Ties.{tied_here, not_tied_here}
use Rattle.fleet_kit.proofs.checks.same_gateway.Goals as goal

pub returns-in-Some : goal.returns-in-Some
returns-in-Some c =
    let ids = c.args.ids.now in
    let k = c.loop-place.place in
    sym (c.loop-place.invariant ∙ tied_here nat_eq ids k c.in-Some.first (slice_index ids k) c.loop-place-test.true (sym (get_or_default_zero ids k (slice_index ids k) c.loop-place-test.true)) (sym c.id_place.ensures ∙ c.in-Some.is))

pub loop-place-preserved : goal.loop-place-preserved
loop-place-preserved c =
    let ids = c.args.ids.now in
    let k = c.loop-place.place in
    c.loop-place.invariant ∙ not_tied_here nat_eq ids k (slice_index ids k) c.loop-place-test.true (sym (get_or_default_zero ids k (slice_index ids k) c.loop-place-test.true)) (sym c.id_place.ensures ∙ c.in_default.is)
