use Rattle.std.proofs.Common.{rules}
use Rattle.point_kit.specs.Hashes.{content_hash}
use Rattle.point_kit.proofs.export.content_hash.Goals as goal

pub returns : goal.returns
unfolding content_hash
returns c = let d = c.new-state.ensures in let s = c.get.ensures in let a = c.pairs.ensures in let h = c.hash.ensures in let g = c.hash-2.ensures in let f = c.finish.ensures in search rules
