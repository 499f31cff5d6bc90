use Rattle.std.proofs.Common.{◌≡◌, length, take}
use Rattle.gateway_kit.specs.Incarnations.{all_points}
use Rattle.gateway_kit.proofs.incarnations.all_len.Given as goal

-- the cells of the incarnations so far
abbrev pub invariant-loop-place : goal.invariant-loop-place
invariant-loop-place l = l.len ≡ length (all_points (take l.place l.incarnations.items))
