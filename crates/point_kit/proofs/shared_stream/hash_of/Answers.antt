use Rattle.std.proofs.Common.{rules}
use Rattle.point_kit.specs.SharedStream.{stream_hash}
use Rattle.point_kit.proofs.shared_stream.hash_of.Goals as goal

pub returns : goal.returns
unfolding stream_hash
returns c = let d = c.default-state.ensures in let h = c.hash.ensures in let f = c.finish.ensures in search rules
