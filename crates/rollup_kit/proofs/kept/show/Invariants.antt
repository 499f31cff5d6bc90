use Rattle.std.proofs.Common.{take}
use Rattle.rollup_kit.specs.Places.{Show}
use Rattle.rollup_kit.proofs.kept.show.Given as goal

abbrev pub invariant-loop-index : goal.invariant-loop-index
invariant-loop-index l = Show l.pairs (take l.index l.places) (take l.index l.held)
