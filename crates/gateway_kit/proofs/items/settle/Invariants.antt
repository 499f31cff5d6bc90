use Rattle.std.proofs.Common.{◌≡◌, map, take}
use Rattle.gateway_kit.specs.Keys.{keyed_cell_of}
use Rattle.gateway_kit.specs.Tallies.{IsTally}
use Rattle.gateway_kit.proofs.items.settle.Given as goal

-- the items are as they were, and the tally is that of those so far
abbrev pub invariant-loop-place : goal.invariant-loop-place
invariant-loop-place l = record {
  same : l.items.items ≡ l.fn.items.items;
  tally : IsTally (take l.place (map keyed_cell_of l.fn.items.items)) l.tally;
}
