use Rattle.std.proofs.Common.{ℕ, ◌-◌, ◌+◌, ◌<◌, ◌≤◌, length, get_or}
use Rattle.gateway_kit.proofs.merging.place_after.Given as goal

-- those before are passed, and those behind are not
abbrev pub invariant-halve : goal.invariant-halve
invariant-halve l = record {
  order : l.low ≤ l.high;
  within : l.high ≤ length l.places;
  passed : (k : ℕ) → k < l.low → get_or l.places k 0 ≤ l.place + k;
  ahead : (k : ℕ) → l.high ≤ k → k < length l.places → l.place + k < get_or l.places k 0;
}

abbrev pub decreases-halve : goal.decreases-halve
decreases-halve l = l.high - l.low
