-- The hashes of a key.
use Rattle.std.specs.Prelude.{ℕ, List, ◌++◌, fold}
use Rattle.std.specs.Hash as fed
use Rattle.std.specs.Hash.{HashWrites}
use Rattle.std.specs.Hash.DefaultHasher as sip
use Rattle.std.specs.Hash.FoldHasher as folding
use Rattle.attr_kit.specs.Hashing as sets
use Rattle.attr_kit.specs.contracts.attr_value.AttrValueHash.TheImpl as values
use Rattle.attr_kit.specs.declared.attr_value.AttrValue.{AttrValue}
use Rattle.point_kit.specs.SharedStream as streams
use Rattle.point_kit.specs.contracts.stream.StreamHash.TheImpl as contents
use Rattle.point_kit.specs.declared.export_point.ExportPoint.{ExportPoint}
use Rattle.point_kit.specs.declared.stream.Stream.{Stream}

-- the hash of the stream's and of the set's
unfoldable pub key_hash : ExportPoint → ℕ
key_hash p = folding.finish (fold folding.write (fold folding.write folding.initial (streams.hash_writes p.stream)) (sets.hash_writes p.attrs))

abbrev pub pair_writes : List ℕ × AttrValue → HashWrites
pair_writes p = fed.str p.0 ++ (values.ghosts).hash_input p.1

-- a hash of all that a key has
unfoldable pub content_hash : Stream → List (List ℕ × AttrValue) → ℕ
content_hash s a = sip.finish (fold sip.write (fold sip.write sip.initial ((contents.ghosts).hash_input s)) (fed.slice pair_writes a))
