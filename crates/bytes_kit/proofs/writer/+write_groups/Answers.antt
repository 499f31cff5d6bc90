use Rattle.std.proofs.Common.{arith}
use Rattle.std.proofs.lemmas.Result.{on_ok_weaker}
use Rattle.bytes_kit.proofs.Refusing.{written_more}
use Rattle.bytes_kit.proofs.writer.+write_groups.Goals as goal

pub returns : goal.returns
returns t c =
    on_ok_weaker c.write_groups.result
    (written_more c.args.more c.args.n c.args.out.now.items c.push-2.new.self.items c.write_groups.new.out.items (omega arith) (omega arith) c.in_ok-push-2.ensures.items)
    c.write_groups.ensures
