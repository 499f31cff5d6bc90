use Rattle.std.proofs.Common.{◌≡◌, ◌++◌, length}
use Rattle.shelf_kit.specs.Shelving.{items_on}
use Rattle.shelf_kit.proofs.walk.WalkIterator.next.Given as goal

-- nothing is lost where a shelf is passed over
abbrev pub invariant-on : goal.invariant-on
invariant-on g l = record {
  left : l.self.left ≡ l.fn.self.left;
  same : l.self.here.now ++ items_on l.self.ahead.now ≡ l.fn.self.here.now ++ items_on l.fn.self.ahead.now;
}

abbrev pub decreases-on : goal.decreases-on
decreases-on g l = length l.self.ahead.now
