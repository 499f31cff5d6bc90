use Rattle.std.proofs.Common.{◌≡◌, [], drop}
use Rattle.otlp_kit.specs.Walks.{walk, walk_from}
use Rattle.otlp_kit.specs.Reading.{add_attribute}
use Rattle.otlp_kit.proofs.point_attributes.pairs_of.Given as goal

abbrev pub invariant-loop-place : goal.invariant-loop-place
invariant-loop-place l = walk_from (add_attribute l.point l.given) l.place l.pairs.items (drop l.place l.given) ≡ walk (add_attribute l.point l.given) [] l.given
