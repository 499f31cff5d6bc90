use Rattle.std.proofs.Common.{take}
use Rattle.rollup_kit.specs.Places.{HaveKeys}
use Rattle.rollup_kit.proofs.kept.have_keys.Given as goal

abbrev pub invariant-loop-index : goal.invariant-loop-index
invariant-loop-index l = HaveKeys l.pairs (take l.index l.places) (take l.index l.keys)
