use Rattle.archive_world_kit.proofs.Rows.{rows_unchanged, unchanged_rollup}
use Rattle.archive_world_kit.proofs.laws.archives_change_no_answer.Goals as goal

pub returns : goal.returns
returns g c = record {
  totals = λ h sound told a g zero plus reads fed Rg og antig asks group asked read last are.
      unchanged_rollup h sound told a g zero plus reads fed Rg og antig asks group asked read last are;
  rows = λ h sound told a g ask adds fed feed last are. rows_unchanged h sound told a g ask adds fed feed last are;
}
