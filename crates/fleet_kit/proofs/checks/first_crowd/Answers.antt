use Rattle.std.proofs.Common.{sym, ◌∙◌}
use Rattle.fleet_kit.proofs.Ties.{crowded_more}
use Rattle.fleet_kit.proofs.checks.first_crowd.Goals as goal

pub loop-place-preserved : goal.loop-place-preserved
loop-place-preserved c = c.loop-place.invariant ∙ crowded_more c.args.jobs.now c.loop-place.place c.args.writers c.loop-place-test.true (sym c.is_crowded.ensures ∙ c.if-is_crowded.false)
