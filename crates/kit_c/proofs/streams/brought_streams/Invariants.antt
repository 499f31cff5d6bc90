use Rattle.std.proofs.Common.{◌≡◌, drop}
use Rattle.kit_c.specs.Streams.{streams_brought, with_brought}
use Rattle.kit_c.proofs.streams.brought_streams.Given as goal

abbrev pub invariant-loop-point : goal.invariant-loop-point
invariant-loop-point l = with_brought l.seen.keys (drop l.point-index l.export.points) ≡ streams_brought l.export
