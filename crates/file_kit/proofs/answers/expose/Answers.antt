use Rattle.std.proofs.lemmas.Result.{err_from_is_err_and}
use Rattle.std.proofs.Common.{ap, refl}
use Rattle.gateway_kit.specs.GatewayState.{GatewayState}
use Rattle.file_kit.proofs.Joining.{still_shows}
use Rattle.file_kit.proofs.answers.expose.Goals as goal
use Rattle.file_kit.proofs.answers.expose.Goals.{in-Prometheus+in_ok-page-in-Prometheus, in-OpenMetrics+in_ok-page-in-OpenMetrics}

pub returns-clause-value : goal.returns-clause-value
returns-clause-value c = (
  c.gateway-gateway.result.now.points,
  still_shows _ c.in_ok-keeper.keeper.gateway.points _ (ap (λ (g : GatewayState). g.points) c.gateway-gateway.ensures.value) c.in_ok-keeper.ensures.value,
  elim c.match-format.branch [
    | in-Prometheus+in_ok-page-in-Prometheus w ↦ rw (w.page-is, w.in-Prometheus.is) (_, refl, w.in_ok-page-in-Prometheus.ensures.value)
    | in-OpenMetrics+in_ok-page-in-OpenMetrics w ↦ rw (w.page-is, w.in-OpenMetrics.is) (_, refl, w.in_ok-page-in-OpenMetrics.ensures.value)
  ],
)

pub returns-in_err-page-in-Prometheus-clause-err : goal.returns-in_err-page-in-Prometheus-clause-err
returns-in_err-page-in-Prometheus-clause-err c =
    let p = err_from_is_err_and c.from_residual-in_err-page-in-Prometheus.result c.from_residual-in_err-page-in-Prometheus.ensures.1 in
    rw (p.1, p.2) tt

pub returns-in_err-page-in-OpenMetrics-clause-err : goal.returns-in_err-page-in-OpenMetrics-clause-err
returns-in_err-page-in-OpenMetrics-clause-err c =
    let p = err_from_is_err_and c.from_residual-in_err-page-in-OpenMetrics.result c.from_residual-in_err-page-in-OpenMetrics.ensures.1 in
    rw (p.1, p.2) tt
