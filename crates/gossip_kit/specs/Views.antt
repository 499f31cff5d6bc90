-- Nodes and messages as contracts see them.
use Rattle.std.specs.Prelude.{ℕ, Option}
use Rattle.std.specs.FinMap.{FinMap}
use Rattle.std.specs.Ordering.{nat_cmp}
use Rattle.gateway_kit.specs.GatewayState.{GatewayState}
use Rattle.point_kit.specs.Exports.{Points}

-- a message: from which id to which, the cells that it carries, of a delta its sender's change number, and of an Ack the number that is acknowledged
pub record MessageModel : Type 0 where
  pub from : ℕ
  pub to : ℕ
  pub points : Points
  pub delta : Option ℕ
  pub ack : Option ℕ

-- a node: its gateway, which numbers each key by the change at which its cell changed last, how often its points changed, and the greatest number that each peer acknowledged
pub record NodeModel : Type 0 where
  pub gateway : GatewayState
  pub change : ℕ
  pub acked : FinMap nat_cmp ℕ
