use Rattle.std.specs.Vec.Iter.{into_iter_items, into_iter_len}
use Rattle.page_kit.specs.Families.{rank_cmp, rank_of}
use Rattle.page_kit.specs.Views.{lists}
use Rattle.page_kit.proofs.Ordered.{AreGrouped}
use Rattle.page_kit.proofs.families.ranked.Given as goal

abbrev pub invariant-loop-measured : goal.invariant-loop-measured
invariant-loop-measured l = AreGrouped rank_cmp rank_of l.fn.metrics.items l.yielded (into_iter_items l.measured-iterator) (into_iter_len l.measured-iterator) (lists l.groups.entries)
