use Rattle.std.proofs.Common.{◌≡◌, ℕ, ◌+◌, ◌-◌, ◌<◌, ◌++◌, ◌∷◌, [], List, Some, None, length, get_or, sym, ap, subst, ◌∙◌, arith}
use Rattle.std.proofs.lemmas.Grind.{common_steps}
use Rattle.std.proofs.Math.ListN.{set}
use Rattle.std.proofs.lemmas.List.{set-get_or}
use Rattle.world_kit.proofs.Places.{stands_at}
use Rattle.world_kit.proofs.GatewayEvents.{answer_none, answer_some, comes_here, goes_elsewhere, hand_nowhere, hand_other, hand_past, hand_wants, hand_zero, hands, hands_delta, with_both}
use Rattle.world_kit.proofs.Replies.{left_as, seen_as, same_as, wants_as}
use Rattle.gateway_kit.specs.GatewayState.{GatewayState}
use Rattle.gossip_kit.specs.Views.{MessageModel}
use Rattle.world_kit.specs.contracts.world.World as world
use Rattle.world_kit.specs.declared.event.Event.TheVariants as event
use Rattle.world_kit.specs.declared.event.Reply.TheVariants as reply
use Rattle.world_kit.specs.Stands.{Acts}
use Rattle.gossip_kit.specs.declared.fault.HandFault.TheVariants.{NotAddressed, NoMemory}
use Rattle.world_kit.specs.Wanting.{Wants}
use Rattle.world_kit.proofs.world.World.hand.Goals as goal

not_none : NotAddressed ≡ NoMemory → ⊥
not_none e = cc

pub returns-then-gateway-len-clause-ok : goal.returns-then-gateway-len-clause-ok
returns-then-gateway-len-clause-ok c = left_as _ _ _ _ c.self.view_is (hand_nowhere _ c.args.mail c.args.gateway (grind (arith, common_steps)))

pub returns-then-mail-eq0-clause-ok : goal.returns-then-mail-eq0-clause-ok
returns-then-mail-eq0-clause-ok c = left_as _ _ _ _ c.self.view_is (hand_zero _ c.args.mail c.args.gateway (grind (arith, common_steps)) (grind (arith, common_steps)))

pub returns-then-mail-len-clause-ok : goal.returns-then-mail-len-clause-ok
returns-then-mail-len-clause-ok c = left_as _ _ _ _ c.self.view_is (hand_past _ c.args.mail c.args.gateway (grind (arith, common_steps)) (grind (arith, common_steps)))

pub returns-then-to-id-clause-ok : goal.returns-then-to-id-clause-ok
returns-then-to-id-clause-ok c =
    let nodes = c.self.inside.nodes.items in
    let mails = c.self.inside.mails.items in
    let low : 0 < c.args.mail = grind (arith, common_steps) in
    let high : c.args.mail - 1 < length mails = grind (arith, common_steps) in
    left_as _ _ _ _ c.self.view_is (hand_other _ c.args.mail c.args.gateway c.index-sent.result.now c.index.result.now low
    (stands_at mails (c.args.mail - 1) c.index-sent.result.now high c.index-sent.ensures)
    (stands_at nodes c.args.gateway c.index.result.now (grind (arith, common_steps)) c.index.ensures)
    (λ same. c.if-to-id.true (c.to.ensures.value ∙ same ∙ sym (c.id.ensures.value ∙ ap (λ (g : GatewayState). g.id) c.gateway.ensures.value))))

pub returns-in_err-reserve-clause-no_memory : goal.returns-in_err-reserve-clause-no_memory
returns-in_err-reserve-clause-no_memory c =
    let nodes = c.self.inside.nodes.items in
    let mails = c.self.inside.mails.items in
    let low : 0 < c.args.mail = grind (arith, common_steps) in
    let high : c.args.mail - 1 < length mails = grind (arith, common_steps) in
    wants_as _ _ _ _ c.self.view_is (hand_wants _ c.args.mail c.args.gateway c.index-sent.result.now c.index.result.now low
    (stands_at mails (c.args.mail - 1) c.index-sent.result.now high c.index-sent.ensures)
    (stands_at nodes c.args.gateway c.index.result.now (grind (arith, common_steps)) c.index.ensures)
    (sym c.to.ensures.value ∙ c.if-to-id.false ∙ c.id.ensures.value ∙ ap (λ (g : GatewayState). g.id) c.gateway.ensures.value))

pub returns-in-Err-NotAddressed-clause-ok : goal.returns-in-Err-NotAddressed-clause-ok
returns-in-Err-NotAddressed-clause-ok c =
    let w = world.the_view c.self.inside in
    let nodes = c.self.inside.nodes.items in
    let mails = c.self.inside.mails.items in
    let low : 0 < c.args.mail = grind (arith, common_steps) in
    let high : c.args.mail - 1 < length mails = grind (arith, common_steps) in
    let its = c.in-Err-NotAddressed.ensures in
    let kept : set nodes c.args.gateway c.hand.new.self ≡ nodes = ap (set nodes c.args.gateway) (its.unchanged ∙ c.index_mut.ensures.value) ∙ set-get_or nodes c.args.gateway c.index_mut.result.now in
    let elsewhere = goes_elsewhere c.index_mut.result.now c.index-message.result.now c.in-Err-NotAddressed.field-0 (its.err (λ e. not_none (sym c.in-Err-NotAddressed.field-0-is ∙ e))) in
    let message = c.index-message.ensures ∙ ap (λ (ms : List MessageModel). get_or ms (c.args.mail - 1) c.index-message.result.now) c.reserve.ensures.items in
    same_as _ _ _ w _ c.self.view_is (λ i. with_both w (kept i) (c.reserve.ensures.items i)) (hand_other w c.args.mail c.args.gateway c.index-message.result.now c.index_mut.result.now low
    (stands_at mails (c.args.mail - 1) c.index-message.result.now high message)
    (stands_at nodes c.args.gateway c.index_mut.result.now (grind (arith, common_steps)) c.index_mut.ensures.value) elsewhere)

pub returns-in-Ok-None-clause-ok : goal.returns-in-Ok-None-clause-ok
returns-in-Ok-None-clause-ok c =
    let w = world.the_view c.self.inside in
    let nodes = c.self.inside.nodes.items in
    let mails = c.self.inside.mails.items in
    let low : 0 < c.args.mail = grind (arith, common_steps) in
    let high : c.args.mail - 1 < length mails = grind (arith, common_steps) in
    let its = c.in-Ok-None.ensures in
    let message = c.index-message.ensures ∙ ap (λ (ms : List MessageModel). get_or ms (c.args.mail - 1) c.index-message.result.now) c.reserve.ensures.items in
    seen_as _ _ _ _ _ c.self.view_is
    (subst (λ (ms : List MessageModel). Acts (event.Hand c.args.mail c.args.gateway) w (reply.Handed None) (with_both w (set nodes c.args.gateway c.hand.new.self) ms)) (sym c.reserve.ensures.items)
    (hands w c.args.mail c.args.gateway c.index-message.result.now c.index_mut.result.now c.hand.new.self low
    (stands_at mails (c.args.mail - 1) c.index-message.result.now high message)
    (stands_at nodes c.args.gateway c.index_mut.result.now (grind (arith, common_steps)) c.index_mut.ensures.value)
    (comes_here c.index_mut.result.now c.index-message.result.now its.ok) its.id its.value its.numbers its.acked
    (answer_none c.index_mut.result.now c.index-message.result.now (sym its.answer ∙ c.in-Ok-None.field-0-is))))

pub returns-in-Ok-Some-clause-ok : goal.returns-in-Ok-Some-clause-ok
returns-in-Ok-Some-clause-ok c =
    let w = world.the_view c.self.inside in
    let nodes = c.self.inside.nodes.items in
    let mails = c.self.inside.mails.items in
    let low : 0 < c.args.mail = grind (arith, common_steps) in
    let high : c.args.mail - 1 < length mails = grind (arith, common_steps) in
    let its = c.in-Ok-Some.ensures in
    let answer = c.in-Ok-Some.answer in
    let message = c.index-message.ensures ∙ ap (λ (ms : List MessageModel). get_or ms (c.args.mail - 1) c.index-message.result.now) c.reserve.ensures.items in
    let grown : c.keep.new.mails.items ≡ mails ++ answer ∷ [] = c.keep.ensures ∙ ap (λ (ms : List MessageModel). ms ++ answer ∷ []) c.reserve.ensures.items in
    let count : c.len-in-Ok-Some.result ≡ length mails + 1 = grind (arith, common_steps) in
    let made = answer_some c.index_mut.result.now c.index-message.result.now answer (sym its.answer ∙ c.in-Ok-Some.field-0-is) in
    seen_as _ _ _ _ _ c.self.view_is
    (subst (λ (n : ℕ). Acts (event.Hand c.args.mail c.args.gateway) w (reply.Handed (Some n)) (with_both w (set nodes c.args.gateway c.hand.new.self) c.keep.new.mails.items)) (sym count)
    (subst (λ (ms : List MessageModel). Acts (event.Hand c.args.mail c.args.gateway) w (reply.Handed (Some (length mails + 1))) (with_both w (set nodes c.args.gateway c.hand.new.self) ms)) (sym grown)
    (hands_delta w c.args.mail c.args.gateway made.0 c.index-message.result.now answer c.index_mut.result.now c.hand.new.self low
    (stands_at mails (c.args.mail - 1) c.index-message.result.now high message)
    (stands_at nodes c.args.gateway c.index_mut.result.now (grind (arith, common_steps)) c.index_mut.ensures.value)
    (comes_here c.index_mut.result.now c.index-message.result.now its.ok) its.id its.value its.numbers its.acked made.1 made.2)))

pub returns-in-Err-NoMemory-clause-no_memory : goal.returns-in-Err-NoMemory-clause-no_memory
returns-in-Err-NoMemory-clause-no_memory c =
    let nodes = c.self.inside.nodes.items in
    let mails = c.self.inside.mails.items in
    let low : 0 < c.args.mail = grind (arith, common_steps) in
    let high : c.args.mail - 1 < length mails = grind (arith, common_steps) in
    let message = c.index-message.ensures ∙ ap (λ (ms : List MessageModel). get_or ms (c.args.mail - 1) c.index-message.result.now) c.reserve.ensures.items in
    subst (Wants (event.Hand c.args.mail c.args.gateway)) c.self.view_is (hand_wants (world.the_view c.self.inside) c.args.mail c.args.gateway c.index-message.result.now c.index_mut.result.now low
    (stands_at mails (c.args.mail - 1) c.index-message.result.now high message)
    (stands_at nodes c.args.gateway c.index_mut.result.now (grind (arith, common_steps)) c.index_mut.ensures.value)
    (comes_here c.index_mut.result.now c.index-message.result.now (c.in-Err-NoMemory.ensures.no_memory c.in-Err-NoMemory.field-0-is)))
