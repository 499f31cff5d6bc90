use Rattle.std.proofs.Common.{rules}
use Rattle.point_kit.specs.Hashes.{key_hash}
use Rattle.point_kit.proofs.export.hash_of.Goals as goal

pub returns : goal.returns
unfolding key_hash
returns c = let d = c.default-state.ensures in let h = c.hash.ensures in let g = c.hash-2.ensures in let f = c.finish.ensures in search rules
