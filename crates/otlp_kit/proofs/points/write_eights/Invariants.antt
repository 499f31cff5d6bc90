use Rattle.std.proofs.Common.{◌≡◌, ◌++◌, take}
use Rattle.std.specs.List.{flat_map}
use Rattle.otlp_kit.specs.Wire.{eight}
use Rattle.otlp_kit.proofs.points.write_eights.Given as goal

abbrev pub invariant-loop-number : goal.invariant-loop-number
invariant-loop-number l = l.out.items ≡ l.fn.out.items ++ flat_map eight (take l.number-index l.numbers)
