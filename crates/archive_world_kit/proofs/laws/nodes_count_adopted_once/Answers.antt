use Rattle.archive_world_kit.proofs.Nodes.{answers}
use Rattle.archive_world_kit.proofs.laws.nodes_count_adopted_once.Goals as goal

pub returns : goal.returns
returns g c = record {
  exact = λ h sound told g zero plus reads fed Rg og antig asks group added is_archive adoptions tombs archives.
      answers h.writing h.starts h.seen h.fits h.gateways h.steps h.is zero plus reads fed Rg asks group is_archive adoptions
      sound told added tombs archives og antig g;
}
