use Rattle.std.proofs.Common.{map, take}
use Rattle.gateway_kit.specs.Keys.{keyed_cell_of}
use Rattle.gateway_kit.specs.Tallies.{IsTally}
use Rattle.gateway_kit.proofs.items.tally_of.Given as goal

-- the tally of the items so far
abbrev pub invariant-loop-item : goal.invariant-loop-item
invariant-loop-item l = IsTally (take l.item-index (map keyed_cell_of l.items)) l.tally
