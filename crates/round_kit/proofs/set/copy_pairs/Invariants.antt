use Rattle.std.proofs.Common.{◌≡◌, take}
use Rattle.round_kit.specs.Placed.{pairs_of}
use Rattle.round_kit.proofs.set.copy_pairs.Given as goal

abbrev pub invariant-loop-index : goal.invariant-loop-index
invariant-loop-index l = l.copy.items ≡ pairs_of (take l.index l.keys) (take l.index l.values)
