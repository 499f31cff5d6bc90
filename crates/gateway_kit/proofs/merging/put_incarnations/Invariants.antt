use Rattle.std.proofs.Common.{◌≡◌, ◌%◌, ◌^◌, map}
use Rattle.gateway_kit.specs.Amending.{with_changes}
use Rattle.gateway_kit.specs.Covering.{AreCovered}
use Rattle.gateway_kit.specs.Inserting.{moved_to, moving}
use Rattle.gateway_kit.specs.Merging.{cells_after}
use Rattle.gateway_kit.specs.Tallies.{conflicts_of}
use Rattle.gateway_kit.specs.Numbers.{IncarnationsMove}
use Rattle.gateway_kit.specs.Incarnations.{keyed_cells}
use Rattle.gateway_kit.proofs.merging.put_incarnations.Given as goal

-- the changes so far
abbrev pub invariant-loop-place : goal.invariant-loop-place
invariant-loop-place l = record {
  cells : map keyed_cells l.incarnations.items ≡ with_changes cells_after (map keyed_cells l.fn.incarnations.items) (map (moving (moved_to l.places)) l.yielded);
  conflicts : l.conflicts ≡ conflicts_of l.incarnations.items % 2 ^ 64;
  covered : AreCovered l.fn.incarnations.bounds l.fn.incarnations.items → AreCovered l.incarnations.bounds l.incarnations.items;
  moves : IncarnationsMove l.number l.fn.incarnations.items l.incarnations.items;
}
