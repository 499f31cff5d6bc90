use Rattle.std.proofs.Common.{rules}
use Rattle.writer_kit.proofs.Sharing.{adds}
use Rattle.writer_kit.proofs.shared.writer.SharedWriter.try_take_in.Goals as goal

pub returns-clause-ok : goal.returns-clause-ok
returns-clause-ok g c = search rules

pub returns-clause-serves : goal.returns-clause-serves
returns-clause-serves g c = adds c.args.self.now c.args.seat.now c.try_change_mut.new.seat _ _ c.try_change_mut.result (returns-clause-ok g c)
