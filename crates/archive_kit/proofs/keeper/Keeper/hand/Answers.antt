use Rattle.std.proofs.Common.{◌≡◌, List, OnOk, sym, ap, subst, ◌∙◌, rules}
use Rattle.std.proofs.lemmas.Result.{on_ok_weaker}
use Rattle.std.specs.FinMap.{empty, empty_of_len, len, len-empty}
use Rattle.gateway_kit.specs.GatewayState.{GatewayState}
use Rattle.gossip_kit.specs.Gossip.{acked_after}
use Rattle.gossip_kit.specs.Views.{NodeModel}
use Rattle.point_kit.specs.Exports.{Points}
use Rattle.point_kit.specs.Orders.{key_cmp}
use Rattle.point_kit.specs.declared.cell.Cell.{Cell}
use Rattle.point_kit.specs.declared.payload.Payload.{Payload}
use Rattle.archive_kit.specs.Keeping.{IsKeeping, Tell, kept_points}
use Rattle.archive_kit.specs.Readiness.{IsReady}
use Rattle.archive_kit.specs.Stepping.{Drops, Joins, JoinsAndDrops, is_gone}
use Rattle.archive_kit.specs.declared.dropping.Gone.{Gone}
use Rattle.archive_kit.proofs.Keeps.{either, keeping, kept, nothing_changes, nothing_dropped, nothing_joined, stepped}
use Rattle.archive_kit.proofs.keeper.Keeper.hand.Goals as goal

pub ready-requires-clause-told : goal.ready-requires-clause-told
ready-requires-clause-told c = subst (λ (g : GatewayState). Tell c.self.inside.names.names g.points) (sym c.gateway-2.ensures.value) c.self.invariant.told

pub invariant_of-self : goal.invariant_of-self
invariant_of-self c =
    let node = c.self.inside.node in
    let coming = c.args.message.now.points in
    let zero : len c.carried-coming.result.now.points ≡ 0 = search rules in
    let none : coming ≡ empty = sym c.carried-coming.ensures.value ∙ empty_of_len c.carried-coming.result.now.points zero in
    either c.hand.result c.hand.ensures.value c.hand.ensures.unchanged
    (nothing_changes c.self.inside.stream c.self.inside.names.names node.gateway.points c.hand.new.self.gateway.points coming c.self.invariant none)
    (λ same. subst (λ (n : NodeModel). IsKeeping c.self.inside.stream c.self.inside.names.names n.gateway.points) (sym same) c.self.invariant)

pub returns-then-len-eq0-clause-value : goal.returns-then-len-eq0-clause-value
returns-then-len-eq0-clause-value c =
    let node = c.self.inside.node in
    let coming = c.args.message.now.points in
    let zero : len c.carried-coming.result.now.points ≡ 0 = search rules in
    let none : coming ≡ empty = sym c.carried-coming.ensures.value ∙ empty_of_len c.carried-coming.result.now.points zero in
    on_ok_weaker c.hand.result
    (λ e. e ∙ nothing_joined node.gateway.points coming c.self.invariant.all_shown none ∙ ap (λ (n : NodeModel). kept_points n.gateway.points coming) c.self.view_is)
    c.hand.ensures.value

pub returns-then-len-eq0-clause-steps : goal.returns-then-len-eq0-clause-steps
returns-then-len-eq0-clause-steps c =
    let node = c.self.inside.node in
    let coming = c.args.message.now.points in
    subst (λ (n : NodeModel). OnOk c.hand.result (JoinsAndDrops coming (acked_after n c.args.message.now) n c.hand.new.self)) c.self.view_is
    (nothing_dropped c.hand.result coming (acked_after node c.args.message.now) node c.hand.new.self c.hand.ensures.id c.hand.ensures.value c.hand.ensures.numbers c.hand.ensures.acked)

pub returns-in_err-gone-clause-known : goal.returns-in_err-gone-clause-known
returns-in_err-gone-clause-known c = λ some known.
    absurd (c.if-len-eq0.false (c.len.ensures.value ∙ ap (λ (p : Points). len p) (c.carried-coming.ensures.of_ack some) ∙ len-empty key_cmp (Cell Payload)))

pub returns-in_err-gone-clause-no_points : goal.returns-in_err-gone-clause-no_points
returns-in_err-gone-clause-no_points c = λ none e.
    absurd (c.if-len-eq0.false (c.len.ensures.value ∙ ap (λ (p : Points). len p) (c.carried-coming.ensures.value ∙ e) ∙ len-empty key_cmp (Cell Payload)))

pub settle-requires-clause-room : goal.settle-requires-clause-room
settle-requires-clause-room c = c.in_ok-gone.ensures.ready.room

pub invariant_of-self-2 : goal.invariant_of-self-2
invariant_of-self-2 c =
    let node = c.self.inside.node in
    let other = c.args.message.now.points in
    let ready : IsReady c.ready.new.names node.gateway.points other c.in_ok-gone.gone.items = subst (λ (m : Points). IsReady c.ready.new.names node.gateway.points m c.in_ok-gone.gone.items) c.carried-coming.ensures.value (subst (λ (g : GatewayState). IsReady c.ready.new.names g.points c.carried-coming.result.now.points c.in_ok-gone.gone.items) c.gateway-2.ensures.value c.in_ok-gone.ensures.ready) in
    let joins : Joins other (acked_after node c.args.message.now) node c.hand-2.new.self = (let told = c.in_ok-answer.ensures in record { id = told.id; points = told.value; numbers = told.numbers; acked = told.acked }) in
    let drops : Drops (is_gone c.in_ok-gone.gone.items) c.hand-2.new.self c.settle.new.node = subst (λ (l : List Gone). Drops (is_gone l) c.hand-2.new.self c.settle.new.node) c.as_slice.ensures.value c.settle.ensures.drops in
    keeping node c.hand-2.new.self c.settle.new.node other (acked_after node c.args.message.now) c.ready.new.names c.in_ok-gone.gone.items ready joins drops c.self.inside.stream c.settle.new.names.names c.self.invariant.stream_is c.settle.ensures.names

pub returns-clause-value : goal.returns-clause-value
returns-clause-value c =
    let node = c.self.inside.node in
    let other = c.args.message.now.points in
    let ready : IsReady c.ready.new.names node.gateway.points other c.in_ok-gone.gone.items = subst (λ (m : Points). IsReady c.ready.new.names node.gateway.points m c.in_ok-gone.gone.items) c.carried-coming.ensures.value (subst (λ (g : GatewayState). IsReady c.ready.new.names g.points c.carried-coming.result.now.points c.in_ok-gone.gone.items) c.gateway-2.ensures.value c.in_ok-gone.ensures.ready) in
    let joins : Joins other (acked_after node c.args.message.now) node c.hand-2.new.self = (let told = c.in_ok-answer.ensures in record { id = told.id; points = told.value; numbers = told.numbers; acked = told.acked }) in
    let drops : Drops (is_gone c.in_ok-gone.gone.items) c.hand-2.new.self c.settle.new.node = subst (λ (l : List Gone). Drops (is_gone l) c.hand-2.new.self c.settle.new.node) c.as_slice.ensures.value c.settle.ensures.drops in
    kept node c.hand-2.new.self c.settle.new.node other (acked_after node c.args.message.now) c.ready.new.names c.in_ok-gone.gone.items ready joins drops
    ∙ ap (λ (n : NodeModel). kept_points n.gateway.points other) c.self.view_is

pub returns-clause-steps : goal.returns-clause-steps
returns-clause-steps c =
    let node = c.self.inside.node in
    let other = c.args.message.now.points in
    let ready : IsReady c.ready.new.names node.gateway.points other c.in_ok-gone.gone.items = subst (λ (m : Points). IsReady c.ready.new.names node.gateway.points m c.in_ok-gone.gone.items) c.carried-coming.ensures.value (subst (λ (g : GatewayState). IsReady c.ready.new.names g.points c.carried-coming.result.now.points c.in_ok-gone.gone.items) c.gateway-2.ensures.value c.in_ok-gone.ensures.ready) in
    let joins : Joins other (acked_after node c.args.message.now) node c.hand-2.new.self = (let told = c.in_ok-answer.ensures in record { id = told.id; points = told.value; numbers = told.numbers; acked = told.acked }) in
    let drops : Drops (is_gone c.in_ok-gone.gone.items) c.hand-2.new.self c.settle.new.node = subst (λ (l : List Gone). Drops (is_gone l) c.hand-2.new.self c.settle.new.node) c.as_slice.ensures.value c.settle.ensures.drops in
    subst (λ (n : NodeModel). JoinsAndDrops other (acked_after n c.args.message.now) n c.settle.new.node) c.self.view_is
    (stepped node c.hand-2.new.self c.settle.new.node other (acked_after node c.args.message.now) c.ready.new.names c.in_ok-gone.gone.items ready joins drops)
