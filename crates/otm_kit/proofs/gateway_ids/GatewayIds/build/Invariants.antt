use Rattle.std.proofs.Common.{◌≡◌, ℕ, take, ◌==◌}
use Rattle.std.specs.Prelude.{nat_eq}
use Rattle.std.specs.HashMap.{get_by}
use Rattle.std.specs.List.{position_from}
use Rattle.otm_kit.proofs.gateway_ids.GatewayIds.build.Given as goal

abbrev pub invariant-loop-place : goal.invariant-loop-place
invariant-loop-place l = (q : ℕ) → get_by (nat_eq q) l.places ≡ position_from (λ k. q == k) 0 (take l.place l.ids)
