use Rattle.rollup_kit.proofs.Agreeing.{rows_agree}
use Rattle.rollup_kit.proofs.laws.rows_go_by_entries.Goals as goal

pub returns : goal.returns
returns c = record { rows = λ s f g m ask w. rows_agree s f g m ask w }
