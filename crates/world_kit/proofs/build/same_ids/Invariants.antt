use Rattle.std.proofs.Common.{◌≡◌, ◌==◌, ℕ, take, drop}
use Rattle.std.specs.HashMap.{get}
use Rattle.std.specs.List.{position_from}
use Rattle.std.specs.Prelude.{nat_eq}
use Rattle.world_kit.specs.Building.{same_gateway, same_gateway_from}
use Rattle.world_kit.proofs.build.same_ids.Given as goal

abbrev pub invariant-loop-place : goal.invariant-loop-place
invariant-loop-place l = record {
  so : same_gateway l.ids ≡ same_gateway_from (take l.place l.ids) (drop l.place l.ids);
  seen : (id : ℕ) → get nat_eq l.firsts id ≡ position_from (λ x. x == id) 0 (take l.place l.ids);
}
