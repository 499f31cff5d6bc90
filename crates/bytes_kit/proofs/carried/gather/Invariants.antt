use Rattle.std.proofs.Common.{◌≡◌, ◌++◌}
use Rattle.std.specs.FinMap.{from_entries}
use Rattle.std.specs.Vec.Iter.{into_iter_items}
use Rattle.bytes_kit.proofs.carried.gather.Given as goal

-- the cells so far are joined
abbrev pub invariant-loop-key : goal.invariant-loop-key
invariant-loop-key l = record {
  all : l.fn.cells.items ≡ l.yielded ++ into_iter_items l.key-iterator;
  gathered : l.gateway.points ≡ from_entries l.yielded;
}
