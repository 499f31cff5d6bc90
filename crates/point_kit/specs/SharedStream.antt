-- The hash that a shared stream keeps.
use Rattle.std.specs.Prelude.{◌≡◌, ℕ, IsTrue, fold}
use Rattle.std.proofs.Common.{ap}
use Rattle.std.specs.Hash as fed
use Rattle.std.specs.Hash.{HashWrites}
use Rattle.std.specs.Hash.FoldHasher as folding
use Rattle.point_kit.specs.Exact.{exact_streams}
use Rattle.point_kit.specs.declared.stream.Stream.{Stream}
use Rattle.point_kit.specs.contracts.stream.StreamPartialEq.TheImpl as equal
use Rattle.point_kit.specs.contracts.stream.StreamHash.TheImpl as hashed

unfoldable pub stream_hash : Stream → ℕ
stream_hash s = folding.finish (fold folding.write folding.initial ((hashed.ghosts).hash_input s))

abbrev pub hash_writes : Stream → HashWrites
hash_writes s = fed.u64 (stream_hash s)

pub hash_alike : (s t : Stream) → IsTrue ((equal.ghosts).eq s t) → hash_writes s ≡ hash_writes t
hash_alike s t e = ap hash_writes (exact_streams s t e)
