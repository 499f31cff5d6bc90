use Rattle.std.proofs.Common.{◌≡◌, take}
use Rattle.gateway_kit.specs.Covering.{AreCovered}
use Rattle.gateway_kit.proofs.incarnations.copy_incarnations.Given as goal

-- the copies so far
abbrev pub invariant-loop-place : goal.invariant-loop-place
invariant-loop-place l = record {
  items : l.copy.items ≡ take l.place l.incarnations.items;
  covered : AreCovered l.copy.bounds l.copy.items;
}
