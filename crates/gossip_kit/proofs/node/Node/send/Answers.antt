use Rattle.std.proofs.Common.{◌<◌, ◌≤◌, Some, sym, ap, subst, ◌∙◌}
use Rattle.std.specs.FinMap.{get}
use Rattle.gateway_kit.specs.GatewayState.{GatewayState}
use Rattle.point_kit.specs.Exports.{Points}
use Rattle.gossip_kit.specs.Bodies.{cells_of, delta_of}
use Rattle.gossip_kit.specs.Gossip.{Brings, acknowledged, last_number}
use Rattle.gossip_kit.specs.Views.{MessageModel, NodeModel}
use Rattle.gossip_kit.proofs.Sending.{carried_all, carried_recent, carries_enough, carries_held, delta_none, delta_recent}
use Rattle.gossip_kit.proofs.node.Node.send.Goals as goal
use Rattle.gossip_kit.proofs.node.Node.send.Goals.{then-number-lt-LAST_NUMBER+in_ok-cells, else-number-lt-LAST_NUMBER+in_ok-try_copy}

pub returns-clause-value : goal.returns-clause-value
returns-clause-value c =
    let node = c.args.self.now in
    ap (λ (m : MessageModel). m.points) c.new.ensures.value
    ∙ elim c.if-number-lt-LAST_NUMBER.branch [
      | then-number-lt-LAST_NUMBER+in_ok-cells w ↦
          let low : node.change < last_number = subst (λ (n : NodeModel). n.change < last_number) c.self.view_is w.if-number-lt-LAST_NUMBER.true in
          ap cells_of w.body-is ∙ w.in_ok-cells.ensures ∙ carried_recent node c.args.to low
      | else-number-lt-LAST_NUMBER+in_ok-try_copy w ↦
          let high : last_number ≤ node.change = subst (λ (n : NodeModel). last_number ≤ n.change) c.self.view_is w.if-number-lt-LAST_NUMBER.false in
          ap cells_of w.body-is ∙ ap (λ (g : GatewayState). g.points) w.in_ok-try_copy.ensures.value ∙ ap (λ (n : NodeModel). n.gateway.points) c.self.view_is ∙ carried_all node c.args.to high
    ]

pub returns-clause-delta : goal.returns-clause-delta
returns-clause-delta c =
    let node = c.args.self.now in
    ap (λ (m : MessageModel). m.delta) c.new.ensures.value
    ∙ elim c.if-number-lt-LAST_NUMBER.branch [
      | then-number-lt-LAST_NUMBER+in_ok-cells w ↦
          let low : node.change < last_number = subst (λ (n : NodeModel). n.change < last_number) c.self.view_is w.if-number-lt-LAST_NUMBER.true in
          ap delta_of w.body-is ∙ ap (λ (n : NodeModel). Some n.change) c.self.view_is ∙ delta_recent node low
      | else-number-lt-LAST_NUMBER+in_ok-try_copy w ↦
          let high : last_number ≤ node.change = subst (λ (n : NodeModel). last_number ≤ n.change) c.self.view_is w.if-number-lt-LAST_NUMBER.false in
          ap delta_of w.body-is ∙ delta_none node high
    ]

pub returns-clause-carries : goal.returns-clause-carries
returns-clause-carries c = λ k cell is. carries_held c.args.self.now c.args.to k cell (sym (ap (λ (m : Points). get m k) (returns-clause-value c)) ∙ is)

pub returns-clause-brings : goal.returns-clause-brings
returns-clause-brings c =
    subst (λ (m : Points). Brings m (acknowledged c.args.self.now c.args.to) c.args.self.now.gateway.points) (sym (returns-clause-value c)) (carries_enough c.args.self.now c.args.to)
