use Rattle.std.proofs.Common.{sym, ap, ◌∙◌}
use Rattle.gateway_kit.proofs.Merged.{joined_empty}
use Rattle.point_kit.specs.Exports.{join_points}
use Rattle.gossip_kit.specs.Bodies.{cells_of}
use Rattle.gossip_kit.specs.Views.{NodeModel}
use Rattle.gossip_kit.proofs.node.Node.hand.Goals as goal

pub returns-in_ok-raise-in-Ack-clause-value : goal.returns-in_ok-raise-in-Ack-clause-value
returns-in_ok-raise-in-Ack-clause-value c =
    ap (λ (n : NodeModel). n.gateway.points) c.self.view_is ∙ joined_empty c.args.self.now.gateway.points
    ∙ ap (join_points c.args.self.now.gateway.points) (ap cells_of (sym c.in-Ack.is) ∙ c.body.ensures.points)
