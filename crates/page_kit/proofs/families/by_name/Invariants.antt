use Rattle.std.specs.Vec.Iter.{into_iter_items, into_iter_len}
use Rattle.attr_kit.specs.Orders.{text_cmp}
use Rattle.page_kit.specs.Families as families
use Rattle.page_kit.specs.Metrics.{family}
use Rattle.page_kit.specs.Views.{lists}
use Rattle.page_kit.proofs.Ordered.{AreGrouped}
use Rattle.page_kit.proofs.families.by_name.Given as goal

abbrev pub invariant-loop-measured : goal.invariant-loop-measured
invariant-loop-measured l = AreGrouped text_cmp (λ (m : families.Measured). family m.0) l.fn.metrics.items l.yielded (into_iter_items l.measured-iterator) (into_iter_len l.measured-iterator) (lists l.groups.entries)
