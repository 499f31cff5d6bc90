use Rattle.archive_kit.proofs.Archived.{archived_added, archived_archives, archived_sound, archived_tombstones}
use Rattle.archive_kit.proofs.laws.archives_can_be_added.Goals as goal

pub returns : goal.returns
returns g c = record {
  sound = λ r s by. archived_sound r s by;
  added = λ r s by zero plus reads fed asks group is adds can. archived_added r s by zero plus reads fed asks group is adds can;
  archives = λ r s by zero plus reads fed asks group is adds can. archived_archives r s by zero plus reads fed asks group is adds can;
  tombstones = λ r s by zero plus reads fed asks group is adds can. archived_tombstones r s by zero plus reads fed asks group is adds can;
}
