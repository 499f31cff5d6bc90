use Rattle.std.proofs.Common.{◌≡◌, ◌++◌, map, take, drop}
use Rattle.kit_c.specs.Rows.{told_count}
use Rattle.kit_c.proofs.rows.copy_counts.Given as goal

-- the front is written, and behind it is what was there
abbrev pub invariant-loop-place : goal.invariant-loop-place
invariant-loop-place l = l.into ≡ map told_count (take l.place l.counts) ++ drop l.place l.fn.into
