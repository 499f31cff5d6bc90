use Rattle.archive_world_kit.proofs.Nodes.{mail_brings, node_holds, node_shows}
use Rattle.archive_world_kit.proofs.laws.nodes_show_what_they_took.Goals as goal

pub returns : goal.returns
returns g c = record {
  shown = λ h g. node_shows h.writing h.starts h.seen h.fits h.gateways h.steps h.is g;
  mails = λ h k mail known. mail_brings h.writing h.starts h.seen h.fits h.gateways h.steps h.is k mail known;
  plain = λ h sound none g. node_holds h.writing h.starts h.seen h.fits h.gateways h.steps h.is sound none g;
}
