use Rattle.kit_c.proofs.Held.{taken}
use Rattle.writer_kit.specs.Taking.{gone}
use Rattle.kit_c.proofs.holding.HoldingWriter.take_in.Goals as goal

pub invariant_of-self : goal.invariant_of-self
invariant_of-self c =
    taken c.self.inside.numbers.entries c.self.inside.writer c.take_in.new.self c.take_in.result (gone c.args.recorder.now c.take_in.new.recorder)
    c.take_in.ensures.value c.take_in.ensures.unchanged c.self.invariant
