use Rattle.archive_world_kit.proofs.Services.{are_asked}
use Rattle.archive_world_kit.proofs.laws.archives_are_asked_as_adopted.Goals as goal

pub returns : goal.returns
returns g c = λ h a ask. are_asked h a ask
