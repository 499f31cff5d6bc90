use Rattle.std.proofs.Common.{sym, ap, ◌∙◌}
use Rattle.std.specs.FinMap.{len, len-empty}
use Rattle.point_kit.specs.declared.cell.Cell.{Cell}
use Rattle.point_kit.specs.declared.payload.Payload.{Payload}
use Rattle.point_kit.specs.Orders.{key_cmp}
use Rattle.gossip_kit.specs.Bodies.{cells_of}
use Rattle.gossip_kit.specs.Views.{MessageModel}
use Rattle.gossip_kit.proofs.message.Message.points_len.Goals as goal

pub returns-in-Ack : goal.returns-in-Ack
returns-in-Ack c = record {
  value = sym (len-empty key_cmp (Cell Payload)) ∙ ap (λ b. len (cells_of b)) (sym c.in-Ack.is) ∙ ap (λ (m : MessageModel). len m.points) c.self.view_is;
}
