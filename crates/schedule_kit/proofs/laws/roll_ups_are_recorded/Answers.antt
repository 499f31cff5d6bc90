use Rattle.schedule_kit.proofs.Headline.{answers_recorded}
use Rattle.schedule_kit.proofs.laws.roll_ups_are_recorded.Goals as goal

pub returns : goal.returns
returns g c = record {
  exact = λ r s fits starts gateways told ds lawful h zero plus reads fed Rg og antig asks group is. answers_recorded r s fits starts gateways told ds lawful h zero plus reads fed og antig asks group is;
}
