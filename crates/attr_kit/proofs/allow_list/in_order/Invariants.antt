use Rattle.std.proofs.Common.{◌≡◌}
use Rattle.attr_kit.specs.AllowLists.{listed_keys}
use Rattle.attr_kit.proofs.allow_list.in_order.Given as goal

abbrev pub invariant-loop-key : goal.invariant-loop-key
invariant-loop-key l = l.set.keys ≡ listed_keys l.yielded

abbrev pub invariant-loop-key-2 : goal.invariant-loop-key-2
invariant-loop-key-2 l = l.sorted.items ≡ l.yielded
