use Rattle.std.proofs.Common.{take}
use Rattle.std.specs.List.{AllByRecursion}
use Rattle.bytes_kit.specs.Fits.{IsInteger}
use Rattle.bytes_kit.proofs.fields.bounds_are_integers.Given as goal

abbrev pub invariant-loop-bound : goal.invariant-loop-bound
invariant-loop-bound l = AllByRecursion IsInteger (take l.bound-index l.bound-items)
