use Rattle.std.proofs.Common.{◌≡◌}
use Rattle.attr_kit.specs.Putting.{attributes_of}
use Rattle.attr_kit.proofs.pair_list.through_tree.Given as goal

abbrev pub invariant-loop-key : goal.invariant-loop-key
invariant-loop-key l = l.map.entries ≡ attributes_of l.yielded

abbrev pub invariant-loop-key-2 : goal.invariant-loop-key-2
invariant-loop-key-2 l = l.sorted.items ≡ l.yielded
