use Rattle.std.proofs.Common.{◌≡◌, ◌∙◌, ◌*◌, ℕ, ℤ, pos, ap, List, inr, refl, slice_get, subst, sym, Some, Err, flat_map}
use Rattle.std.proofs.lemmas.Result.{err_from_is_err_and}
use Rattle.std.specs.Prelude.{IsErrOf}
use Rattle.gateway_kit.specs.GatewayState.{GatewayState}
use Rattle.rollup_kit.specs.Rollups.{rollup_rows}
use Rattle.rollup_kit.specs.declared.ask.Ask.{Ask}
use Rattle.otm_kit.specs.FleetSetups.{EndsBy, fleet_ask}
use Rattle.otm_kit.specs.FleetTexts.{answer_line, fleet_text, sum_in, total_line}
use Rattle.otm_kit.specs.declared.fleet_end.FleetEnd.TheVariants as ends
use Rattle.otm_kit.proofs.FleetEnds.{told_is}
use Rattle.otm_kit.proofs.FleetRows.{lines_are, total_is}
use Rattle.otm_kit.proofs.fleet.totals_of_run.Goals as goal

pub returns-clause-value : goal.returns-clause-value
unfolding fleet_text
returns-clause-value g c writers recorders each count setup =
    let gateways = c.in_ok-gateways.gateways.items in
    let total = writers * recorders * each in
    let sum : GatewayState → ℤ = λ v. sum_in (rollup_rows fleet_ask v.points) in
    let all : (k : ℕ) (v : GatewayState) → slice_get gateways k ≡ Some v → sum v ≡ pos total = λ k v at.
    ap sum_in (c.in_ok-gateways.ensures.rows k v at fleet_ask tt (inr (record { keep = refl; only = refl }))) ∙ total_is writers recorders each count c.args.setup setup in
    c.in_ok-lines.ensures
    ∙ ap (λ (vs : List GatewayState). flat_map (answer_line c.in_ok-ask.ask) vs) c.as_slice.ensures.value
    ∙ ap (λ (ask : Ask). flat_map (answer_line ask) gateways) c.in_ok-ask.ensures
    ∙ lines_are sum total gateways all
    ∙ ap (flat_map (λ id. total_line id (pos total))) (c.in_ok-gateways.ensures.ids ∙ setup.gateways)

pub returns-in_err-gateways-clause-fault : goal.returns-in_err-gateways-clause-fault
returns-in_err-gateways-clause-fault g c f is =
    let p = err_from_is_err_and c.from_residual.result c.from_residual.ensures.1 in
    let same : Err p.0 ≡ Err (ends.Fleet f) = subst (λ r. IsErrOf r (ends.Fleet f)) p.1 is in
    let at : p.0 ≡ ends.Fleet f = cc in
    let told = told_is c.in_err-gateways.field-0.0 f (sym p.2 ∙ at) in
    (subst (EndsBy c.args.setup) told.0 c.in_err-gateways.ensures.err, told.1)
