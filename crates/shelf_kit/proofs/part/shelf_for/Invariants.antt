use Rattle.std.proofs.Common.{◌<◌, ◌≤◌, ◌-◌, true, false, length}
use Rattle.shelf_kit.specs.Shelving.{BeginsBehind}
use Rattle.shelf_kit.proofs.part.shelf_for.Given as goal

abbrev pub invariant-halve : goal.invariant-halve
invariant-halve g l = record {
  some : l.low < l.high;
  within : l.high ≤ length l.shelves;
  before : 0 < l.low → BeginsBehind (g.P.Target.order_of l.target) l.shelves l.low false;
  after : l.high < length l.shelves → BeginsBehind (g.P.Target.order_of l.target) l.shelves l.high true;
}

abbrev pub decreases-halve : goal.decreases-halve
decreases-halve g l = l.high - l.low
