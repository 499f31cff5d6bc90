use Rattle.std.proofs.Common.{◌-◌, length}
use Rattle.shelf_kit.proofs.Above.{ArePassed}
use Rattle.shelf_kit.proofs.part.above_from.Given as goal

abbrev pub invariant-on : goal.invariant-on
invariant-on g l = ArePassed l.shelves.items l.index l.number l.shelf l.from

abbrev pub decreases-on : goal.decreases-on
decreases-on g l = length l.shelves.items - l.shelf
