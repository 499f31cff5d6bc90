use Rattle.std.proofs.Common.{[], ◌∷◌}
use Rattle.point_kit.specs.Exports.{state}
use Rattle.archive_kit.proofs.Skipping.{joined_alone}
use Rattle.archive_kit.proofs.keeper.points_of.Goals as goal

pub returns-clause-value : goal.returns-clause-value
returns-clause-value c = joined_alone c.new-gateway.result.points (state (c.args.export.now ∷ [])) c.take.new.self.points c.new-gateway.ensures.value c.in_ok-take.ensures.ok
