use Rattle.std.proofs.Common.{◌<◌, ◌≤◌, ◌-◌, length}
use Rattle.gateway_kit.specs.Weave.{AreBelow, by_key}
use Rattle.gateway_kit.proofs.ordered.skip_below.Given as goal

-- all that was passed over is below the key
abbrev pub invariant-double : goal.invariant-double
invariant-double g l = record {
  some : 0 < l.step;
  within : l.place ≤ length l.values;
  on : l.from ≤ l.place;
  below : AreBelow (by_key g.T.Keyed.compare g.T.Keyed.entry) l.values l.key l.from → AreBelow (by_key g.T.Keyed.compare g.T.Keyed.entry) l.values l.key l.place;
}

abbrev pub decreases-double : goal.decreases-double
decreases-double g l = length l.values - l.place

abbrev pub invariant-halve : goal.invariant-halve
invariant-halve g l = record {
  within : l.place ≤ length l.values;
  on : l.from ≤ l.place;
  below : AreBelow (by_key g.T.Keyed.compare g.T.Keyed.entry) l.values l.key l.from → AreBelow (by_key g.T.Keyed.compare g.T.Keyed.entry) l.values l.key l.place;
}

abbrev pub decreases-halve : goal.decreases-halve
decreases-halve g l = l.step
