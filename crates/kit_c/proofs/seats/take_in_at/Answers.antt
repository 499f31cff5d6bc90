use Rattle.std.specs.Arc.{arc_value}
use Rattle.kit_c.proofs.Knowing.{know_tried}
use Rattle.kit_c.proofs.seats.take_in_at.Goals as goal

pub invariant_of-desk-clause-known : goal.invariant_of-desk-clause-known
invariant_of-desk-clause-known c =
    know_tried (arc_value c.args.desk.now.writer) c.args.desk.now.seat c.try_take_in.new.seat c.args.desk.now.numbers.entries _ _ _ _ _ _ _ c.try_take_in.result
    c.try_take_in.ensures.ok c.try_take_in.ensures.busy c.try_take_in.ensures.exhausted c.try_take_in.ensures.refused c.args.desk.now.known
