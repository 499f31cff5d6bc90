use Rattle.archive_world_kit.proofs.Once.{each_once, sealed_adopt_apart}
use Rattle.archive_world_kit.proofs.laws.incarnations_are_adopted_once.Goals as goal

pub returns : goal.returns
returns g c = record {
  each = λ h told a g apart. each_once h a g told apart;
  sealed = λ h a g i j is. sealed_adopt_apart h a g i j is;
}
