use Rattle.std.proofs.Common.{◌≡◌, List, OnOk, sym, ap, subst, ◌∙◌, rules}
use Rattle.std.specs.FinMap.{empty, empty_of_len, len, len-empty}
use Rattle.gateway_kit.specs.GatewayState.{GatewayState}
use Rattle.gossip_kit.specs.Views.{NodeModel}
use Rattle.point_kit.specs.Exports.{Points}
use Rattle.point_kit.specs.Orders.{key_cmp}
use Rattle.point_kit.specs.declared.cell.Cell.{Cell}
use Rattle.point_kit.specs.declared.payload.Payload.{Payload}
use Rattle.archive_kit.specs.Keeping.{Tell, kept_points}
use Rattle.archive_kit.specs.Readiness.{IsReady}
use Rattle.archive_kit.specs.Stepping.{Drops, Joins, JoinsAndDrops, is_gone}
use Rattle.archive_kit.specs.declared.dropping.Gone.{Gone}
use Rattle.archive_kit.proofs.Keeps.{keeping, kept, nothing_changes, nothing_dropped, nothing_joined, on_all, on_ok, stepped}
use Rattle.archive_kit.proofs.keeper.Keeper.merge.Goals as goal

pub ready-requires-clause-told : goal.ready-requires-clause-told
ready-requires-clause-told c = subst (λ (g : GatewayState). Tell c.self.inside.names.names g.points) (sym c.gateway.ensures.value) c.self.invariant.told

pub invariant_of-self : goal.invariant_of-self
invariant_of-self c =
    let node = c.self.inside.node in
    let other = c.args.other.now.points in
    let zero : len other ≡ 0 = search rules in
    let none : other ≡ empty = empty_of_len other zero in
    nothing_changes c.self.inside.stream c.self.inside.names.names node.gateway.points c.merge.new.self.gateway.points other c.self.invariant none
    (on_ok c.merge.result 0 (c.merge.ensures.no_points none) c.merge.ensures.ok)

pub returns-then-len-eq0-clause-ok : goal.returns-then-len-eq0-clause-ok
returns-then-len-eq0-clause-ok c =
    let node = c.self.inside.node in
    let other = c.args.other.now.points in
    let zero : len other ≡ 0 = search rules in
    let none : other ≡ empty = empty_of_len other zero in
    on_all c.merge.result
    (on_ok c.merge.result 0 (c.merge.ensures.no_points none) c.merge.ensures.ok
    ∙ nothing_joined node.gateway.points other c.self.invariant.all_shown none
    ∙ ap (λ (n : NodeModel). kept_points n.gateway.points other) c.self.view_is)

pub returns-then-len-eq0-clause-steps : goal.returns-then-len-eq0-clause-steps
returns-then-len-eq0-clause-steps c =
    let node = c.self.inside.node in
    let other = c.args.other.now.points in
    subst (λ (n : NodeModel). OnOk c.merge.result (JoinsAndDrops other n.acked n c.merge.new.self)) c.self.view_is
    (nothing_dropped c.merge.result other node.acked node c.merge.new.self c.merge.ensures.id c.merge.ensures.ok c.merge.ensures.numbers
    (on_all c.merge.result c.merge.ensures.acked))

pub returns-in_err-gone-clause-no_points : goal.returns-in_err-gone-clause-no_points
returns-in_err-gone-clause-no_points c = λ e.
    absurd (c.if-len-eq0.false (c.len.ensures.value ∙ ap (λ (p : Points). len p) e ∙ len-empty key_cmp (Cell Payload)))

pub settle-requires-clause-room : goal.settle-requires-clause-room
settle-requires-clause-room c = c.in_ok-gone.ensures.ready.room

pub invariant_of-self-2 : goal.invariant_of-self-2
invariant_of-self-2 c =
    let node = c.self.inside.node in
    let other = c.args.other.now.points in
    let ready : IsReady c.ready.new.names node.gateway.points other c.in_ok-gone.gone.items = subst (λ (g : GatewayState). IsReady c.ready.new.names g.points other c.in_ok-gone.gone.items) c.gateway.ensures.value c.in_ok-gone.ensures.ready in
    let joins : Joins other node.acked node c.merge-2.new.self = (let told = c.in_ok-changed.ensures in record { id = told.id; points = told.ok; numbers = told.numbers; acked = told.acked }) in
    let drops : Drops (is_gone c.in_ok-gone.gone.items) c.merge-2.new.self c.settle.new.node = subst (λ (l : List Gone). Drops (is_gone l) c.merge-2.new.self c.settle.new.node) c.as_slice.ensures.value c.settle.ensures.drops in
    keeping node c.merge-2.new.self c.settle.new.node other node.acked c.ready.new.names c.in_ok-gone.gone.items ready joins drops c.self.inside.stream c.settle.new.names.names c.self.invariant.stream_is c.settle.ensures.names

pub returns-clause-ok : goal.returns-clause-ok
returns-clause-ok c =
    let node = c.self.inside.node in
    let other = c.args.other.now.points in
    let ready : IsReady c.ready.new.names node.gateway.points other c.in_ok-gone.gone.items = subst (λ (g : GatewayState). IsReady c.ready.new.names g.points other c.in_ok-gone.gone.items) c.gateway.ensures.value c.in_ok-gone.ensures.ready in
    let joins : Joins other node.acked node c.merge-2.new.self = (let told = c.in_ok-changed.ensures in record { id = told.id; points = told.ok; numbers = told.numbers; acked = told.acked }) in
    let drops : Drops (is_gone c.in_ok-gone.gone.items) c.merge-2.new.self c.settle.new.node = subst (λ (l : List Gone). Drops (is_gone l) c.merge-2.new.self c.settle.new.node) c.as_slice.ensures.value c.settle.ensures.drops in
    kept node c.merge-2.new.self c.settle.new.node other node.acked c.ready.new.names c.in_ok-gone.gone.items ready joins drops
    ∙ ap (λ (n : NodeModel). kept_points n.gateway.points other) c.self.view_is

pub returns-clause-steps : goal.returns-clause-steps
returns-clause-steps c =
    let node = c.self.inside.node in
    let other = c.args.other.now.points in
    let ready : IsReady c.ready.new.names node.gateway.points other c.in_ok-gone.gone.items = subst (λ (g : GatewayState). IsReady c.ready.new.names g.points other c.in_ok-gone.gone.items) c.gateway.ensures.value c.in_ok-gone.ensures.ready in
    let joins : Joins other node.acked node c.merge-2.new.self = (let told = c.in_ok-changed.ensures in record { id = told.id; points = told.ok; numbers = told.numbers; acked = told.acked }) in
    let drops : Drops (is_gone c.in_ok-gone.gone.items) c.merge-2.new.self c.settle.new.node = subst (λ (l : List Gone). Drops (is_gone l) c.merge-2.new.self c.settle.new.node) c.as_slice.ensures.value c.settle.ensures.drops in
    subst (λ (n : NodeModel). JoinsAndDrops other n.acked n c.settle.new.node) c.self.view_is
    (stepped node c.merge-2.new.self c.settle.new.node other node.acked c.ready.new.names c.in_ok-gone.gone.items ready joins drops)
