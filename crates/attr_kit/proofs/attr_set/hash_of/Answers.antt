use Rattle.std.proofs.Common.{rules}
use Rattle.attr_kit.specs.Hashing.{set_hash}
use Rattle.attr_kit.proofs.attr_set.hash_of.Goals as goal

pub returns : goal.returns
unfolding set_hash
returns c = let d = c.default-state.ensures in let h = c.hash.ensures in let f = c.finish.ensures in search rules
