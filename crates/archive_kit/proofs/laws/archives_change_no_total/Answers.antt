use Rattle.archive_kit.proofs.Headline.{none_changes}
use Rattle.archive_kit.proofs.laws.archives_change_no_total.Goals as goal

pub returns : goal.returns
returns g c = λ r s fits starts gateways told ds lawful h zero plus reads fed Rg asks group is how are archives whole each there owns adopted_are row.
    none_changes r s fits starts gateways told ds lawful h zero plus reads fed Rg asks group is how are archives whole each there owns adopted_are row
