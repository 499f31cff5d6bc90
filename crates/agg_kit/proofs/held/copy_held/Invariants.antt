use Rattle.std.proofs.Common.{◌≡◌, ℕ, Some, take, slice_get}
use Rattle.agg_kit.specs.Held.{held_of, HaveRoom, IsPlaceless}
use Rattle.agg_kit.specs.declared.held.HeldPoint.{HeldPoint}
use Rattle.agg_kit.proofs.held.copy_held.Given as goal

abbrev pub invariant-loop-point : goal.invariant-loop-point
invariant-loop-point l = record {
  same : held_of l.copy.items ≡ held_of (take l.point-index l.held.items);
  none : (n : ℕ) (h : HeldPoint) → slice_get l.copy.items n ≡ Some h → IsPlaceless h.places;
  room : HaveRoom l.plan l.copy.items;
}
