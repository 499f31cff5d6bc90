use Rattle.std.proofs.Common.{◌≡◌, ◌%◌, ◌^◌, take}
use Rattle.gateway_kit.specs.Tallies.{conflicts_of}
use Rattle.gateway_kit.proofs.incarnations.conflicts_among.Given as goal

-- the conflicts of the incarnations so far
abbrev pub invariant-loop-incarnation : goal.invariant-loop-incarnation
invariant-loop-incarnation l = l.conflicts ≡ conflicts_of (take l.incarnation-index l.incarnations) % 2 ^ 64
