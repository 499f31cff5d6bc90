use Rattle.archive_kit.proofs.Headline.{shown_answers, counted_once}
use Rattle.archive_kit.proofs.laws.roll_ups_count_adopted_once.Goals as goal

pub returns : goal.returns
returns g c = record {
  exact = λ r s fits starts gateways told ds lawful h zero plus reads fed Rg og antig asks group is how are archives.
      shown_answers r s fits starts gateways told ds lawful h zero plus reads fed Rg asks group is how are archives og antig;
  once = λ r s fits starts gateways told ds lawful h how are each. counted_once r s fits starts gateways told ds lawful h how are each;
}
