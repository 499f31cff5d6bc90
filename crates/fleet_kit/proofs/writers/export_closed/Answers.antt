use Rattle.std.proofs.Common.{inr}
use Rattle.writer_kit.specs.Shared.{first_of}
use Rattle.fleet_kit.proofs.Exported.{exports_mixed, ok_then}
use Rattle.fleet_kit.proofs.Stops.{err_then}
use Rattle.fleet_kit.proofs.writers.export_closed.Goals as goal

pub returns-in-Ok : goal.returns-in-Ok
returns-in-Ok c = record {
  ok = ok_then c.collection_of.result _ _
      (λ e copy es brings. exports_mixed (first_of c.args.shared) c.args.main c.in-Ok.writer c.in-Ok.ensures.serves.0 c.in-Ok.ensures.serves.1 c.requires.new c.args.time e copy es brings) c.collection_of.ensures.ok;
  err = err_then c.collection_of.result _ _ (λ h is. inr is) c.collection_of.ensures.err;
}
