use Rattle.std.proofs.Common.{◌≡◌, ◌<◌, ℕ, Some, slice_get}
use Rattle.plan_kit.specs.Plans.{Planned}
use Rattle.agg_kit.specs.Held.{held_of, HaveRoom, IsPlaceless}
use Rattle.agg_kit.specs.declared.held.HeldPoint.{HeldPoint}
use Rattle.agg_kit.proofs.held.forget_places.Given as goal

abbrev pub invariant-loop-index : goal.invariant-loop-index
invariant-loop-index l = record {
  same : held_of l.held.items ≡ held_of l.initial.held.items;
  none : (n : ℕ) (h : HeldPoint) → n < l.index → slice_get l.held.items n ≡ Some h → IsPlaceless h.places;
  room : (p : Planned) → HaveRoom p l.initial.held.items → HaveRoom p l.held.items;
}
