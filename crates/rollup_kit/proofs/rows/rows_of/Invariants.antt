use Rattle.std.proofs.Common.{◌≡◌, map}
use Rattle.rollup_kit.specs.Walks.{row_read}
use Rattle.rollup_kit.proofs.rows.rows_of.Given as goal

abbrev pub invariant-loop-attrs : goal.invariant-loop-attrs
invariant-loop-attrs l = l.rows.items ≡ map (λ e. row_read l.shape e.0 e.1) l.yielded
