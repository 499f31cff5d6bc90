use Rattle.std.proofs.Common.{◌≡◌, take}
use Rattle.gateway_kit.specs.Tallies.{conflicts_of}
use Rattle.gateway_kit.proofs.incarnations.all_conflicts.Given as goal

-- the conflicts of the incarnations so far
abbrev pub invariant-loop-place : goal.invariant-loop-place
invariant-loop-place l = l.conflicts ≡ conflicts_of (take l.place l.incarnations.items)
