-- What is asked of a shared gateway.
use Rattle.std.specs.Prelude.{ℕ, count_by}
use Rattle.std.specs.FinMap.{entries}
use Rattle.gateway_kit.specs.Queries.{has_conflict}
use Rattle.gateway_kit.specs.GatewayState.{GatewayState}

-- how many keys of a gateway hold a conflict
abbrev pub conflicts_in : GatewayState → ℕ
conflicts_in g = count_by (λ e. has_conflict e.1) (entries g.points)
