use Rattle.archive_world_kit.proofs.Page.{page_recorded}
use Rattle.archive_world_kit.proofs.laws.pages_count_adopted_once.Goals as goal

pub returns : goal.returns
returns g c = λ h sound told a g fed feed proper service but m there w here. page_recorded h sound told a g fed feed proper service but m there w here
