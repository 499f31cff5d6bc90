use Rattle.std.proofs.Common.{◌≡◌, ◌∙◌, ap, sym, subst, Err}
use Rattle.std.proofs.lemmas.Result.{err_from_is_err_and}
use Rattle.std.specs.Prelude.{IsErrOf}
use Rattle.otm_kit.specs.declared.fleet_end.FleetEnd.TheVariants as ends
use Rattle.otm_kit.proofs.Unwritten.{nothing_written}
use Rattle.otm_kit.proofs.fleet.fleet_report.Goals as goal

pub returns-in_err-setup-clause-front : goal.returns-in_err-setup-clause-front
returns-in_err-setup-clause-front g c =
    let p = err_from_is_err_and c.from_residual.result c.from_residual.ensures.1 in
    rw p.1 (nothing_written _ _)

pub returns-in_err-text-clause-front : goal.returns-in_err-text-clause-front
returns-in_err-text-clause-front g c =
    let p = err_from_is_err_and c.from_residual-in_err-text.result c.from_residual-in_err-text.ensures.1 in
    rw p.1 (nothing_written _ _)

pub returns-in_err-text-clause-fault : goal.returns-in_err-text-clause-fault
returns-in_err-text-clause-fault g c f is =
    let p = err_from_is_err_and c.from_residual-in_err-text.result c.from_residual-in_err-text.ensures.1 in
    let same : Err p.0 ≡ Err (ends.Fleet f) = subst (λ r. IsErrOf r (ends.Fleet f)) p.1 is in
    let at : p.0 ≡ ends.Fleet f = cc in
    let told = c.in_err-text.ensures.fault f (ap Err (sym p.2 ∙ at)) in
    record { s = c.in_ok-setup.setup; setup = c.in_ok-setup.ensures; ends = told.0; other = told.1 }
