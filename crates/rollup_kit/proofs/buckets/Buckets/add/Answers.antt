use Rattle.std.proofs.Common.{◌∙◌, ◌≤◌, length, slice_index, ap, arith}
use Rattle.rollup_kit.specs.Counts.{add_each}
use Rattle.rollup_kit.proofs.Counts.{all_added}
use Rattle.rollup_kit.proofs.buckets.Buckets.add.Goals as goal

pub returns : goal.returns
returns c =
    let past : length c.self.inside.counts.items ≤ c.loop-place.place = omega arith in
    all_added c.loop-place.place c.self.inside.counts.items c.loop-place.self-inside.counts.items c.args.counts.now c.loop-place.invariant past
    ∙ ap (λ l. add_each 0 l (slice_index c.args.counts.now)) c.self.view_is
