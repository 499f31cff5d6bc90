use Rattle.std.proofs.Common.{subst}
use Rattle.agg_kit.specs.Sound.{AllSound}
use Rattle.agg_kit.specs.Tallies.{Tallied}
use Rattle.agg_kit.proofs.streams.Streams.plan.Goals as goal

pub returns-clause-sound : goal.returns-clause-sound
returns-clause-sound c = subst (λ (t : Tallied). AllSound t.plan.streams t.series) c.self.view_is c.self.invariant.sound
