use Rattle.std.proofs.Common.{◌∙◌, ap, sym}
use Rattle.gateway_kit.proofs.Merged.{joined_empty}
use Rattle.gossip_kit.specs.Bodies.{cells_of}
use Rattle.gossip_kit.specs.declared.message.Body.{Body}
use Rattle.point_kit.specs.Exports.{join_points}
use Rattle.file_kit.proofs.join.join_body.Goals as goal

pub returns-in-Ack-clause-ok : goal.returns-in-Ack-clause-ok
returns-in-Ack-clause-ok c =
    joined_empty c.args.gateway.now.points ∙ ap (λ (b : Body). join_points c.args.gateway.now.points (cells_of b)) (sym c.in-Ack.is)
