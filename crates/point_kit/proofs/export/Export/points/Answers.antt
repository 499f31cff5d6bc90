use Rattle.point_kit.proofs.Sound.{sound_keys, sound_points}
use Rattle.point_kit.proofs.export.Export.points.Goals as goal

pub returns-clause-keys : goal.returns-clause-keys
returns-clause-keys c = sound_keys c.args.self.now.start c.args.self.now.time c.args.self.now.points c.args.self.now.sound

pub returns-clause-sound : goal.returns-clause-sound
returns-clause-sound c = sound_points c.args.self.now.start c.args.self.now.time c.args.self.now.points c.args.self.now.sound
