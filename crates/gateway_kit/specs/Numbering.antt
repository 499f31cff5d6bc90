-- What a change numbers.
use Rattle.std.specs.Prelude.{◌≡◌, ◌≢◌, ℕ}
use Rattle.std.specs.FinMap.{get}
use Rattle.std.specs.Option.{unwrap_or}
use Rattle.point_kit.specs.declared.key.Key.{Key}
use Rattle.gateway_kit.specs.Numbers.{Moves}
use Rattle.gateway_kit.specs.GatewayState.{GatewayState}

-- the number of a key, 0 where it was given none
abbrev pub number_of : GatewayState → Key → ℕ
number_of g k = unwrap_or (get g.numbers k) 0

-- each key that has another cell gets the number, and no other key another number
pub record IsNumberedBy (number : ℕ) (old new : GatewayState) : Type 0 where
  pub kept : (k : Key) → get new.points k ≡ get old.points k → number_of new k ≡ number_of old k
  pub numbered : (k : Key) → get new.points k ≢ get old.points k → number_of new k ≡ number

-- all keys of a gateway move
abbrev pub GatewayMoves : ℕ → GatewayState → GatewayState → Type 0
GatewayMoves number old new = (k : Key) → Moves number (get old.points k) (get new.points k) (number_of old k) (number_of new k)
