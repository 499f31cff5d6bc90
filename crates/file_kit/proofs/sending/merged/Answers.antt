use Rattle.std.proofs.lemmas.Result.{err_from_is_err_and}
use Rattle.std.proofs.Common.{◌≡◌, ◌∙◌, ℕ, None, ap}
use Rattle.bytes_kit.specs.Messages.{bytes_of_message}
use Rattle.gateway_kit.specs.GatewayState.{GatewayState}
use Rattle.gossip_kit.specs.Views.{MessageModel}
use Rattle.file_kit.specs.Sending.{state_of}
use Rattle.file_kit.proofs.Joining.{still_shows}
use Rattle.file_kit.proofs.sending.merged.Goals as goal

pub returns-clause-value : goal.returns-clause-value
returns-clause-value c =
    let same : c.in_ok-gateway.gateway ≡ c.in_ok-keeper.keeper.gateway = c.in_ok-gateway.ensures.value ∙ c.gateway.ensures.value in
    let points = c.in_ok-gateway.gateway.points in
    let id : c.id-id.result ≡ 0 = c.id-id.ensures.value ∙ ap (λ (g : GatewayState). g.id) same ∙ c.in_ok-keeper.ensures.id in
    let with_id : ℕ → MessageModel = λ n. record { from = n; to = n; points = points; delta = None; ack = None } in
    let made : c.new-state.result ≡ state_of points = c.new-state.ensures.value ∙ ap with_id id in
    (points, still_shows _ c.in_ok-keeper.keeper.gateway.points points (ap (λ (g : GatewayState). g.points) same) c.in_ok-keeper.ensures.value, c.in_ok-encode_message.ensures.ok ∙ ap bytes_of_message made)

pub returns-in_err-gateway-clause-err : goal.returns-in_err-gateway-clause-err
returns-in_err-gateway-clause-err c =
    let p = err_from_is_err_and c.from_residual-in_err-gateway.result c.from_residual-in_err-gateway.ensures.1 in
    rw (p.1, p.2) tt

pub returns-in_err-encode_message-clause-err : goal.returns-in_err-encode_message-clause-err
returns-in_err-encode_message-clause-err c =
    let p = err_from_is_err_and c.from_residual-in_err-encode_message.result c.from_residual-in_err-encode_message.ensures.1 in
    rw (p.1, p.2) tt
