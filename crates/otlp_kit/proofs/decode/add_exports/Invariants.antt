use Rattle.std.proofs.Common.{◌≡◌, ℕ, map, length}
use Rattle.std.specs.Vec.Iter.{into_iter_items, into_iter_len}
use Rattle.otlp_kit.specs.Reading.{add_export, said_of}
use Rattle.otlp_kit.specs.Walks.{walk, walk_from}
use Rattle.otlp_kit.proofs.decode.add_exports.Given as goal

abbrev pub invariant-loop-group : goal.invariant-loop-group
invariant-loop-group l = (i : ℕ) × ((walk_from (add_export l.writer) i (map said_of l.exports.items) (into_iter_items l.rest) ≡ walk (add_export l.writer) (map said_of l.fn.exports.items) l.fn.groups.items) × (into_iter_len l.rest ≡ length (into_iter_items l.rest)))

abbrev pub decreases-loop-group : goal.decreases-loop-group
decreases-loop-group l = length (into_iter_items l.rest)
