-- What a gateway is seen as.
use Rattle.std.specs.Prelude.{ℕ}
use Rattle.std.specs.FinMap.{FinMap}
use Rattle.point_kit.specs.Exports.{Points}
use Rattle.point_kit.specs.Orders.{key_cmp}

-- its id, its points: what is held under each key, and the numbers above 0 that keys were given
pub record GatewayState : Type 0 where
  pub id : ℕ
  pub points : Points
  pub numbers : FinMap key_cmp ℕ
