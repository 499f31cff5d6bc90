use Rattle.std.proofs.Common.{◌≡◌, [], drop, map}
use Rattle.otlp_kit.specs.Walks.{walk, walk_from}
use Rattle.otlp_kit.specs.Reading.{add_resource, said_of, nothing_read}
use Rattle.otlp_kit.proofs.decode.exports_in.Given as goal

abbrev pub invariant-loop-place : goal.invariant-loop-place
invariant-loop-place l = walk_from add_resource l.place (l.reading, map said_of l.exports.items) (drop l.place l.request.resources) ≡ walk add_resource (nothing_read, []) l.request.resources
