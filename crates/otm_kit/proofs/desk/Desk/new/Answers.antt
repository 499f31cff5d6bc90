use Rattle.std.proofs.Common.{refl}
use Rattle.otm_kit.specs.Effects.{has_begun}
use Rattle.otm_kit.specs.Events.{commands}
use Rattle.otm_kit.proofs.desk.Desk.new.Goals as goal

pub returns : goal.returns
unfolding has_begun commands
returns c = record { begun = refl; is = c.new.ensures; idle = refl }
