use Rattle.std.proofs.Common.{◌≡◌, length}
use Rattle.std.specs.Vec.Iter.{into_iter_items, into_iter_len}
use Rattle.page_kit.specs.Views.{all_measured}
use Rattle.page_kit.proofs.Claimed.{Told}
use Rattle.page_kit.proofs.families.told_apart.Given as goal

abbrev pub invariant-loop-measured : goal.invariant-loop-measured
invariant-loop-measured l =
    Told l.claimed.keys (all_measured l.families.shown.items) (all_measured l.families.hidden.items) (all_measured (into_iter_items l.measured-iterator)) (all_measured l.fn.metrics.items)
    × (into_iter_len l.measured-iterator ≡ length (into_iter_items l.measured-iterator))
