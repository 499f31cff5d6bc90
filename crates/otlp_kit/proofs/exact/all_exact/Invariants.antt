use Rattle.std.proofs.Common.{◌≡◌, [], drop}
use Rattle.otlp_kit.specs.Walks.{walk, walk_from}
use Rattle.otlp_kit.specs.Reading.{add_bound}
use Rattle.otlp_kit.proofs.exact.all_exact.Given as goal

abbrev pub invariant-loop-bits : goal.invariant-loop-bits
invariant-loop-bits l = walk_from (add_bound l.point) l.bits-index l.bounds.items (drop l.bits-index l.doubles) ≡ walk (add_bound l.point) [] l.doubles
