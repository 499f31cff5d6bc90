use Rattle.std.proofs.Common.{take}
use Rattle.bytes_kit.specs.Index.{IsIndexOf}
use Rattle.bytes_kit.proofs.index.Index.widen.Given as goal

abbrev pub invariant-loop-i : goal.invariant-loop-i
invariant-loop-i l = IsIndexOf (take l.i l.texts) l.wider
