use Rattle.std.proofs.Common.{◌≡◌, ◌≤◌, ◌-◌, length, map, take}
use Rattle.gateway_kit.specs.Incarnations.{keyed_cells}
use Rattle.gateway_kit.specs.Recent.{recent_incarnations}
use Rattle.gateway_kit.proofs.incarnations.all_since.Given as goal

-- what of the incarnations so far is newer
abbrev pub invariant-loop-place : goal.invariant-loop-place
invariant-loop-place l = record {
  within : l.place ≤ length l.incarnations.items;
  kept : map keyed_cells l.kept.items ≡ map keyed_cells (recent_incarnations l.number (take l.place l.incarnations.items));
}

abbrev pub decreases-loop-place : goal.decreases-loop-place
decreases-loop-place l = length l.incarnations.items - l.place
