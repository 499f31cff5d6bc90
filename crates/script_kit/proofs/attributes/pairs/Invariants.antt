use Rattle.std.proofs.Common.{◌≡◌, Some, map, take}
use Rattle.script_kit.specs.Attributes.{pair_of}
use Rattle.script_kit.specs.Pieces.{all_some}
use Rattle.script_kit.proofs.attributes.pairs.Given as goal

abbrev pub invariant-loop-piece : goal.invariant-loop-piece
invariant-loop-piece l = all_some pair_of (take l.piece-index (map (λ w. w.now) l.piece-items)) ≡ Some (l.pairs.items)
