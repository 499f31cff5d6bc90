use Rattle.archive_world_kit.proofs.Nodes.{part_held, holds_just}
use Rattle.archive_world_kit.proofs.laws.nodes_hold_newest_collections.Goals as goal

pub returns : goal.returns
returns g c = record {
  part = λ h sound told g w start there x seen_there.
      part_held h.writing h.starts h.seen h.fits h.gateways h.steps h.is sound told g w start there x seen_there;
  just = λ h sound told g w start there all_shown.
      holds_just h.writing h.starts h.seen h.fits h.gateways h.steps h.is sound told g w start there all_shown;
}
