use Rattle.rollup_kit.proofs.Fleets.{fleet_rows}
use Rattle.rollup_kit.proofs.laws.fleets_answer_for_jobs.Goals as goal

pub returns-clause-rows : goal.returns-clause-rows
returns-clause-rows c = λ s plans told end jobs exports count each took taken a missing ask adds w. fleet_rows s plans told end jobs exports count each took taken a missing ask adds w
