use Rattle.std.proofs.Common.{◌≡◌, filter, take}
use Rattle.std.specs.List.{list_any}
use Rattle.std.specs.Ordering.{eq_by_cmp, int_cmp}
use Rattle.page_kit.proofs.bounds.kept.Given as goal

abbrev pub invariant-loop-bound : goal.invariant-loop-bound
invariant-loop-bound l = l.kept.items ≡ filter (λ bound. list_any (eq_by_cmp int_cmp bound) l.others) (take l.bound-index l.bounds)
