use Rattle.std.proofs.Common.{◌∙◌, Result, Ok, Err, OnOk, ap}
use Rattle.gateway_kit.specs.GatewayState.{GatewayState}
use Rattle.uses.proofs.Gossiped.{told_all}
use Rattle.uses.proofs.gossiping.tell.Goals as goal

always : {R F P : Type 0} (r : Result R F) → P → OnOk r P
always (Ok x) p = p
always (Err e) p = tt

pub returns-clause-told : goal.returns-clause-told
returns-clause-told c =
    always c.hear_back.result
    (told_all c.args.from.now c.args.to.now c.in_ok-message.message c.id.result c.hand.new.self.gateway.points c.in_ok-answer.ensures.value
    c.in_ok-message.ensures.carries c.in_ok-message.ensures.brings (c.id.ensures.value ∙ ap (λ (g : GatewayState). g.id) c.gateway.ensures.value) c.requires)
