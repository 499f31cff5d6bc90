use Rattle.archive_world_kit.proofs.Rows.{rows_counted}
use Rattle.archive_world_kit.proofs.laws.rows_count_adopted_once.Goals as goal

pub returns : goal.returns
returns g c = λ h sound told a g ask adds fed feed. rows_counted h sound told a g ask adds fed feed
