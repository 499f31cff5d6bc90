use Rattle.std.proofs.Common.{slice_index, arith}
use Rattle.std.proofs.lemmas.Int.{ints}
use Rattle.rollup_kit.proofs.Bounds.{histogram_at}
use Rattle.rollup_kit.proofs.group.Group.add_histogram.Goals as goal

pub invariant_of-self : goal.invariant_of-self
invariant_of-self c =
    histogram_at c.self.inside.sum c.args.sum c.self.inside.count c.args.count c.self.inside.buckets (slice_index c.args.buckets.now) c.self.inside.points
    c.self.invariant (record { sfits = c.ranges.sum.sfits }) (omega arith) (λ place. (c.type_inv.buckets place).fits)
    _ _ _ (omega (arith, ints)) (omega arith) c.add.ensures
