use Rattle.std.proofs.Common.{◌≡◌, ◌-◌, length, take}
use Rattle.gateway_kit.specs.Recent.{newer}
use Rattle.gateway_kit.proofs.items.newer_items.Given as goal

-- of the items so far those that are newer
abbrev pub invariant-loop-place : goal.invariant-loop-place
invariant-loop-place l = l.kept.items ≡ newer l.number (take l.place l.items)

abbrev pub decreases-loop-place : goal.decreases-loop-place
decreases-loop-place l = length l.items - l.place
