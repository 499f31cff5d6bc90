use Rattle.agg_kit.proofs.HeldPoints.{placed-none, room-none}
use Rattle.agg_kit.proofs.tally.Tally.new.Goals as goal

pub invariant_of-result : goal.invariant_of-result
invariant_of-result c = (placed-none c.in_ok-new.field-0 c.new-2.result.items c.new-2.ensures.items, room-none c.in_ok-new.field-0.plan c.new-2.result.items c.new-2.ensures.items)
