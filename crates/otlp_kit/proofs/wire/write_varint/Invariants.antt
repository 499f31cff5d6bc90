use Rattle.std.proofs.Common.{◌≡◌, ◌++◌}
use Rattle.otlp_kit.specs.Wire.{varint}
use Rattle.otlp_kit.proofs.wire.write_varint.Given as goal

abbrev pub invariant-loop-rest : goal.invariant-loop-rest
invariant-loop-rest l = l.out.items ++ varint l.rest ≡ l.fn.out.items ++ varint l.n

abbrev pub decreases-loop-rest : goal.decreases-loop-rest
decreases-loop-rest l = l.rest
