use Rattle.std.proofs.Common.{◌≡◌, ℕ, ◌+◌, ◌<◌, length, List, [], ◌∷◌, ◌++◌, subst, sym, ap, ◌∙◌, arith}
use Rattle.std.proofs.lemmas.Grind.{common_steps}
use Rattle.world_kit.proofs.Places.{stands_at}
use Rattle.world_kit.proofs.GatewayEvents.{send_nowhere, send_none, send_wants, sends, with_mails}
use Rattle.world_kit.proofs.Replies.{left_as, seen_as, wants_as}
use Rattle.gateway_kit.specs.GatewayState.{GatewayState}
use Rattle.gossip_kit.specs.Gossip.{Brings, acknowledged}
use Rattle.gossip_kit.specs.Views.{MessageModel}
use Rattle.world_kit.specs.contracts.world.World as world
use Rattle.world_kit.specs.declared.event.Event.TheVariants as event
use Rattle.world_kit.specs.declared.event.Reply.TheVariants as reply
use Rattle.world_kit.specs.Stands.{Acts}
use Rattle.world_kit.proofs.world.World.send.Goals as goal

pub returns-then-from-len-clause-ok : goal.returns-then-from-len-clause-ok
returns-then-from-len-clause-ok c = left_as _ _ _ _ c.self.view_is (send_nowhere _ c.args.from c.args.to (grind (arith, common_steps)))

pub returns-then-to-len-clause-ok : goal.returns-then-to-len-clause-ok
returns-then-to-len-clause-ok c = left_as _ _ _ _ c.self.view_is (send_none _ c.args.from c.args.to (grind (arith, common_steps)) (grind (arith, common_steps)))

pub returns-clause-ok : goal.returns-clause-ok
returns-clause-ok c =
    let w = world.the_view c.self.inside in
    let nodes = c.self.inside.nodes.items in
    let mails = c.self.inside.mails.items in
    let mail = c.in_ok-mail.mail in
    let here : c.args.from < length nodes = grind (arith, common_steps) in
    let there : c.args.to < length nodes = grind (arith, common_steps) in
    let grown : c.push.new.self.items ≡ mails ++ mail ∷ [] = c.in_ok-push.ensures.items in
    let count : c.len-3.result ≡ length mails + 1 = grind (arith, common_steps) in
    let comes : mail.from ≡ c.index-2.result.now.gateway.id = c.in_ok-mail.ensures.from in
    let goes : mail.to ≡ c.index.result.now.gateway.id = c.in_ok-mail.ensures.to ∙ c.id-receiver.ensures.value ∙ ap (λ (g : GatewayState). g.id) c.gateway.ensures.value in
    seen_as _ _ _ _ _ c.self.view_is
    (subst (λ (n : ℕ). Acts (event.Send c.args.from c.args.to) w (reply.Sent n) (with_mails w c.push.new.self.items)) (sym count)
    (subst (λ (ms : List MessageModel). Acts (event.Send c.args.from c.args.to) w (reply.Sent (length mails + 1)) (with_mails w ms)) (sym grown)
    (sends w c.args.from c.args.to c.index-2.result.now c.index.result.now mail
    (stands_at nodes c.args.from c.index-2.result.now here c.index-2.ensures)
    (stands_at nodes c.args.to c.index.result.now there c.index.ensures)
    comes goes c.in_ok-mail.ensures.delta c.in_ok-mail.ensures.ack c.in_ok-mail.ensures.carries
    (subst (λ (t : ℕ). Brings mail.points (acknowledged c.index-2.result.now t) c.index-2.result.now.gateway.points) (sym c.in_ok-mail.ensures.to) c.in_ok-mail.ensures.brings))))

pub returns-in_err-mail-clause-no_memory : goal.returns-in_err-mail-clause-no_memory
returns-in_err-mail-clause-no_memory c = wants_as _ _ _ _ c.self.view_is (send_wants _ c.args.from c.args.to (grind (arith, common_steps)) (grind (arith, common_steps)))

pub returns-in_err-push-clause-no_memory : goal.returns-in_err-push-clause-no_memory
returns-in_err-push-clause-no_memory c = wants_as _ _ _ _ c.self.view_is (send_wants _ c.args.from c.args.to (grind (arith, common_steps)) (grind (arith, common_steps)))
