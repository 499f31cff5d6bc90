use Rattle.std.proofs.Common.{◌≡◌, ◌≤◌, ℕ, true, map}
use Rattle.gateway_kit.specs.Amending.{with_changes}
use Rattle.gateway_kit.specs.Bounding.{AreBounds}
use Rattle.gateway_kit.specs.Changing.{replacement}
use Rattle.gateway_kit.specs.Keys.{keyed_cell_of}
use Rattle.gateway_kit.specs.Numbers.{ItemsMove}
use Rattle.gateway_kit.specs.Tallies.{IsTally, are_up_to}
use Rattle.gateway_kit.proofs.items.put_cells.Given as goal

-- the updates made so far, the tally, and the numbers
abbrev pub invariant-loop-place : goal.invariant-loop-place
invariant-loop-place l = record {
  put : map keyed_cell_of l.items.items ≡ with_changes replacement (map keyed_cell_of l.fn.items.items) l.yielded;
  tally : IsTally (map keyed_cell_of l.items.items) l.tally;
  moves : ItemsMove l.number l.fn.items.items l.items.items;
  bounded : AreBounds l.fn.bounds l.fn.items.items → AreBounds l.bounds l.items.items;
  up_to : (n : ℕ) → l.number ≤ n → are_up_to n l.fn.items.items ≡ true → are_up_to n l.items.items ≡ true;
}
