use Rattle.std.proofs.Common.{◌≡◌, ◌++◌}
use Rattle.rollup_kit.proofs.kept_rows.append.Given as goal

abbrev pub invariant-loop-set : goal.invariant-loop-set
invariant-loop-set l = l.all.items ++ l.set-iterator ≡ l.fn.rows.items ++ l.fn.others.entries
