use Rattle.std.proofs.lemmas.Result.{err_from_is_err_and}
use Rattle.std.proofs.Common.{◌∙◌, ap}
use Rattle.gateway_kit.specs.GatewayState.{GatewayState}
use Rattle.rollup_kit.specs.TableText.{table_text}
use Rattle.file_kit.proofs.Joining.{still_shows}
use Rattle.file_kit.proofs.answers.report.Goals as goal

pub returns-clause-value : goal.returns-clause-value
returns-clause-value c = (
  c.gateway-shown.result.now.points,
  still_shows _ c.in_ok-keeper.keeper.gateway.points _ (ap (λ (g : GatewayState). g.points) c.gateway-shown.ensures.value) c.in_ok-keeper.ensures.value,
  record {
    table = c.in_ok-table.ensures.value ∙ ap table_text c.as_slice.ensures ∙ ap table_text c.in_ok-rows.ensures.value;
    others = c.in_ok-others.ensures;
  },
)

pub returns-in_err-others-clause-err : goal.returns-in_err-others-clause-err
returns-in_err-others-clause-err c =
    let p = err_from_is_err_and c.from_residual-in_err-others.result c.from_residual-in_err-others.ensures.1 in
    rw (p.1, p.2) tt
