use Rattle.std.proofs.Common.{◌≡◌, length}
use Rattle.gateway_kit.specs.Covering.{AreCovered}
use Rattle.gateway_kit.specs.Inserting.{taken_out}
use Rattle.gateway_kit.proofs.merging.take_out.Given as goal

-- what is left is to be taken out
abbrev pub invariant-loop-place : goal.invariant-loop-place
invariant-loop-place l = record {
  items : taken_out l.incarnations.items l.places.items ≡ taken_out l.fn.incarnations.items l.fn.places.items;
  covered : AreCovered l.fn.incarnations.bounds l.fn.incarnations.items → AreCovered l.incarnations.bounds l.incarnations.items;
}

abbrev pub decreases-loop-place : goal.decreases-loop-place
decreases-loop-place l = length l.places.items
