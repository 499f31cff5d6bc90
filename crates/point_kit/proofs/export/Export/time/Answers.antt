use Rattle.point_kit.proofs.Sound.{sound_time}
use Rattle.point_kit.proofs.export.Export.time.Goals as goal

pub returns-clause-after_start : goal.returns-clause-after_start
returns-clause-after_start c = sound_time c.args.self.now.start c.args.self.now.time c.args.self.now.points c.args.self.now.sound
