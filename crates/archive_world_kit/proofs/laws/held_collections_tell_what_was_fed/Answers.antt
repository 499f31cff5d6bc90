use Rattle.archive_world_kit.proofs.Adopted.{are_fed}
use Rattle.archive_world_kit.specs.Adopted.{telling}
use Rattle.archive_world_kit.proofs.laws.held_collections_tell_what_was_fed.Goals as goal

pub returns : goal.returns
returns g c = record {
  fed = λ h sound a zero plus reads fed asks read.
      are_fed h.writing sound (telling a) a.held a.are.driven.never a.are.were zero plus reads fed asks read;
}
