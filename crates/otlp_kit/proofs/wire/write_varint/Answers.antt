use Rattle.std.proofs.Common.{◌++◌, arith}
use Rattle.otlp_kit.specs.Wire.{varint}
use Rattle.otlp_kit.proofs.Written.{group_more, group_last}
use Rattle.otlp_kit.proofs.wire.write_varint.Goals as goal

pub loop-rest-preserved : goal.loop-rest-preserved
loop-rest-preserved c =
    group_more (c.args.out.now.items ++ varint c.args.n) c.loop-rest.out.items c.push.new.self.items c.loop-rest.rest (omega arith) c.loop-rest.invariant c.in_ok-push.ensures.items

pub returns : goal.returns
returns c =
    group_last (c.args.out.now.items ++ varint c.args.n) c.loop-rest.out.items c.push-2.new.self.items c.loop-rest.rest (omega arith) c.loop-rest.invariant c.in_ok-push-2.ensures.items
