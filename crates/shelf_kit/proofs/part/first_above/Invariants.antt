use Rattle.std.proofs.Common.{ℕ, ◌<◌, ◌≤◌, ◌-◌, length, get_or}
use Rattle.shelf_kit.proofs.part.first_above.Given as goal

abbrev pub invariant-pass : goal.invariant-pass
invariant-pass l = record {
  on : l.from ≤ l.place;
  within : l.place ≤ length l.numbers;
  passed : (k : ℕ) → l.from ≤ k → k < l.place → get_or l.numbers k 0 ≤ l.number;
}

abbrev pub decreases-pass : goal.decreases-pass
decreases-pass l = length l.initial.numbers - l.place
