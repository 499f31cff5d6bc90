use Rattle.std.proofs.Common.{◌≡◌, ◌++◌}
use Rattle.page_kit.proofs.groups.list_of.Given as goal

abbrev pub invariant-loop-group : goal.invariant-loop-group
invariant-loop-group g l = l.list.items ++ l.group-iterator ≡ l.fn.groups.entries
