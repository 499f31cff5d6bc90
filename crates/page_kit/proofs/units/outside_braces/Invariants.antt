use Rattle.std.proofs.Common.{◌≡◌, ◌++◌, false, drop}
use Rattle.page_kit.specs.Units.{outside_from}
use Rattle.page_kit.proofs.units.outside_braces.Given as goal

abbrev pub invariant-loop-byte : goal.invariant-loop-byte
invariant-loop-byte l = l.bytes.items ++ outside_from l.inside (drop l.byte-index l.unit) ≡ outside_from false l.unit
