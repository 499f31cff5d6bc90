use Rattle.std.proofs.Common.{[], ◌∷◌, inl, refl}
use Rattle.archive_kit.proofs.Headline.{adopted_recorded, adopted_there, counted_once}
use Rattle.archive_kit.proofs.Written.{written_tombstones}
use Rattle.archive_world_kit.proofs.Nodes.{lossless, same_shown, were_made}
use Rattle.archive_world_kit.specs.Adopted.{telling}
use Rattle.archive_world_kit.specs.Steps.{deeds, rounding}
use Rattle.archive_world_kit.proofs.laws.forgetting_loses_nothing.Goals as goal
use Rattle.schedule_kit.specs.Deeds.Holder.{AtGateway}

pub returns : goal.returns
returns g c = record {
  same = λ h g k same. same_shown h.writing h.starts h.seen h.fits h.gateways h.steps h.is g k same;
  exact = λ h sound told a g zero plus reads fed Rg og antig asks group asked read.
      lossless h.writing h.starts h.seen h.fits h.gateways h.steps h.is zero plus reads fed Rg asks group a.is_archive a.adoptions a.held
      sound told a.are read asked og antig g;
  once = λ h sound told a g each.
      counted_once (rounding h.writing) sound h.fits h.starts h.gateways told (deeds h.steps) h.is.lawful (AtGateway g) (telling a)
      (written_tombstones (rounding h.writing) (record { key = λ i start x. refl; same = λ x y. refl; instances = a.are.instances })
      a.is_archive a.adoptions a.held a.are.driven) each;
  there = λ h c were.
      adopted_there h.starts h.fits h.gateways (deeds h.steps) h.is.lawful (c ∷ []) (were_made h.starts h.steps c were) c (inl refl);
  recorded = λ h c were.
      adopted_recorded h.starts h.fits h.gateways (deeds h.steps) h.is.lawful (c ∷ []) (were_made h.starts h.steps c were) c (inl refl);
}
