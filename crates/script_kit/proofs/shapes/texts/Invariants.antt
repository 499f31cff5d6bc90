use Rattle.std.proofs.Common.{◌≡◌, map, take}
use Rattle.script_kit.proofs.shapes.texts.Given as goal

abbrev pub invariant-loop-piece : goal.invariant-loop-piece
invariant-loop-piece l = l.texts.items ≡ map (λ w. w.now) (take l.piece-index l.pieces)
