use Rattle.schedule_kit.proofs.Mixed.{totals_mixed}
use Rattle.schedule_kit.proofs.laws.mixed_lists_add_up.Goals as goal

pub returns : goal.returns
returns g c = record {
  totals = λ eq exact own zero plus sum f xs ys m. totals_mixed eq exact own zero plus sum f xs ys m;
}
