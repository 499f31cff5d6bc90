use Rattle.kit_c.proofs.Held.{restarted}
use Rattle.kit_c.proofs.holding.HoldingWriter.restart.Goals as goal

pub invariant_of-self : goal.invariant_of-self
invariant_of-self c =
    restarted c.self.inside.numbers.entries c.self.inside.writer c.restart.new.self c.restart.result c.args.start
    c.restart.ensures.value c.restart.ensures.unchanged c.self.invariant
