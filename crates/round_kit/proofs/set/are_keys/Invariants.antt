use Rattle.std.proofs.Common.{◌≡◌, map, take}
use Rattle.std.specs.Map.{keys_of}
use Rattle.round_kit.proofs.set.are_keys.Given as goal

abbrev pub invariant-loop-index : goal.invariant-loop-index
invariant-loop-index l = map (λ key. key.now) (take l.index l.keys) ≡ keys_of (take l.index l.pairs)
