use Rattle.std.proofs.Common.{rules}
use Rattle.bytes_kit.specs.Index.{text_hash}
use Rattle.bytes_kit.proofs.index.hash_of.Goals as goal

pub returns : goal.returns
unfolding text_hash
returns c = let d = c.default-state.ensures in let h = c.hash.ensures in let f = c.finish.ensures in search rules
