use Rattle.std.proofs.Common.{refl}
use Rattle.archive_kit.specs.Archive.{fresh}
use Rattle.archive_kit.proofs.Driving.{adopted_once, all_exported, sealed_apart}
use Rattle.archive_kit.proofs.laws.adoptions_are_exported.Goals as goal

pub returns : goal.returns
returns c = record {
  once = λ w s l calls accepted. adopted_once (fresh w s l) refl calls accepted;
  sealed = λ w s l again calls later accepted c d i j same. sealed_apart (fresh w s l) refl later calls again accepted c d i j same;
  told = λ w s l calls accepted none x there. all_exported (fresh w s l) refl refl refl calls accepted none x there;
}
