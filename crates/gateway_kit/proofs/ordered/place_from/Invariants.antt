use Rattle.std.proofs.Common.{◌≤◌, ◌-◌, length}
use Rattle.gateway_kit.specs.Weave.{AreBelow, by_key}
use Rattle.gateway_kit.proofs.ordered.place_from.Given as goal

abbrev pub invariant-loop-place : goal.invariant-loop-place
invariant-loop-place g l = record {
  within : l.place ≤ length l.values;
  below : AreBelow (by_key g.T.Keyed.compare g.T.Keyed.entry) l.values l.key l.place;
}

abbrev pub decreases-loop-place : goal.decreases-loop-place
decreases-loop-place g l = length l.values - l.place
