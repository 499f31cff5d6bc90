use Rattle.std.proofs.Common.{◌∙◌, arith}
use Rattle.otlp_kit.proofs.Written.{turned_byte}
use Rattle.otlp_kit.proofs.wire.turn_by_bytes.Goals as goal

pub loop-preserved : goal.loop-preserved
loop-preserved c = record {
  turned = turned_byte c.args.part.now c.loop.part c.rotate_left.new.self c.loop.counter (omega (arith, c.loop-test.true, c.requires)) c.loop.invariant.turned c.rotate_left.ensures.after;
  long = c.rotate_left.ensures.len ∙ c.loop.invariant.long;
}
