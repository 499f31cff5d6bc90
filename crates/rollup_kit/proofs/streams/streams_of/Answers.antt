use Rattle.std.proofs.Common.{◌∙◌, List, sym, ap}
use Rattle.gateway_kit.specs.Walks.{points_left}
use Rattle.point_kit.specs.declared.cell.Cell.{Cell}
use Rattle.point_kit.specs.declared.key.Key.{Key}
use Rattle.point_kit.specs.declared.payload.Payload.{Payload}
use Rattle.point_kit.specs.declared.stream.Stream.{Stream}
use Rattle.rollup_kit.specs.Streams.{with_streams}
use Rattle.rollup_kit.proofs.streams.streams_of.Goals as goal

pub loop-point-preserved : goal.loop-point-preserved
loop-point-preserved c = (
  tt,
  tt,
  ap (λ (ks : List Stream). with_streams ks (points_left c.next.new.self)) c.in_ok-note.ensures
      ∙ ap (λ (ps : List (Key × Cell Payload)). with_streams c.loop-point.seen.keys ps) (sym c.in-Some.ensures.steps)
      ∙ c.loop-point.invariant.2,
)
