use Rattle.std.proofs.Common.{sym, ◌∙◌}
use Rattle.fleet_kit.proofs.Ties.{tied_here, not_tied_here}
use Rattle.fleet_kit.specs.Checks.{has_id_of}
use Rattle.fleet_kit.proofs.checks.same_writer.Goals as goal

pub returns-in-Some : goal.returns-in-Some
returns-in-Some c =
    sym (c.loop-place.invariant ∙ tied_here has_id_of c.args.writers.now c.loop-place.place c.in-Some.first c.index-writers-place.result c.loop-place-test.true c.index-writers-place.is (sym c.place_of.ensures ∙ c.in-Some.is))

pub loop-place-preserved : goal.loop-place-preserved
loop-place-preserved c =
    c.loop-place.invariant ∙ not_tied_here has_id_of c.args.writers.now c.loop-place.place c.index-writers-place.result c.loop-place-test.true c.index-writers-place.is (sym c.place_of.ensures ∙ c.in_default.is)
