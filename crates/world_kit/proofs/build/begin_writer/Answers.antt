use Rattle.world_kit.proofs.Beginnings.{started_one}
use Rattle.world_kit.proofs.build.begin_writer.Goals as goal

pub returns-clause-value : goal.returns-clause-value
returns-clause-value c = let its = c.in_ok-writer.ensures in started_one c.args.setup c.in_ok-writer.writer its.id its.plan its.empty its.start its.last its.open
