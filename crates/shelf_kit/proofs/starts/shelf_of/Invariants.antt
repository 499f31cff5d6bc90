use Rattle.std.proofs.Common.{◌<◌, ◌≤◌, ◌-◌, length, get_or}
use Rattle.shelf_kit.proofs.starts.shelf_of.Given as goal

abbrev pub invariant-halve : goal.invariant-halve
invariant-halve l = record {
  some : l.low < l.high;
  within : l.high ≤ length l.starts;
  from : get_or l.starts l.low 0 ≤ l.index;
  until : l.high < length l.starts → l.index < get_or l.starts l.high 0;
}

abbrev pub decreases-halve : goal.decreases-halve
decreases-halve l = l.high - l.low
