use Rattle.archive_kit.proofs.Written.{written_added, written_tombstones}
use Rattle.archive_kit.proofs.laws.driven_archives_are_lawful.Goals as goal

pub returns : goal.returns
returns g c = record {
  tombstones = λ r keyed is_archive adoptions held are. written_tombstones r keyed is_archive adoptions held are;
  added = λ r keyed sound is_archive adoptions held are zero plus reads fed asks feeding.
      written_added r keyed is_archive adoptions held are sound zero plus reads fed asks feeding;
}
