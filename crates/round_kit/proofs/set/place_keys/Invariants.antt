use Rattle.std.proofs.Common.{◌≡◌, map, take}
use Rattle.std.specs.Map.{keys_of}
use Rattle.round_kit.proofs.set.place_keys.Given as goal

abbrev pub invariant-loop-key : goal.invariant-loop-key
invariant-loop-key l = map (λ key. key.now) l.keys.items ≡ keys_of (take l.key-index l.pairs)
