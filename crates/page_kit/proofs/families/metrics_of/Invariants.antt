use Rattle.std.proofs.Common.{◌≡◌, ◌++◌, length}
use Rattle.std.specs.Vec.Iter.{into_iter_items, into_iter_len}
use Rattle.page_kit.specs.Families.{metrics_of}
use Rattle.page_kit.specs.Views.{cells, cell_lists, all_measured}
use Rattle.page_kit.proofs.families.metrics_of.Given as goal

abbrev pub invariant-loop-metric : goal.invariant-loop-metric
invariant-loop-metric l =
    (all_measured l.metrics.items ++ cell_lists (into_iter_items l.metric-iterator) ≡ metrics_of (cells l.points))
    × (into_iter_len l.metric-iterator ≡ length (into_iter_items l.metric-iterator))
