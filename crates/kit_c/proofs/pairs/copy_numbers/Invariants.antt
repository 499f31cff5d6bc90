use Rattle.std.proofs.Common.{◌≡◌, take}
use Rattle.kit_c.proofs.pairs.copy_numbers.Given as goal

abbrev pub invariant-loop-place : goal.invariant-loop-place
invariant-loop-place l = l.copy.entries ≡ take l.place l.numbers.entries
