use Rattle.std.proofs.Common.{◌≡◌, ℤ, take}
use Rattle.std.specs.List.{list_any}
use Rattle.std.specs.Ordering.{eq_by_cmp, int_cmp}
use Rattle.page_kit.specs.Bounds.{rising}
use Rattle.page_kit.proofs.bounds.set_of.Given as goal

abbrev pub invariant-loop-bound : goal.invariant-loop-bound
invariant-loop-bound l = record {
  keys : l.set.keys ≡ rising (take l.bound-index l.bounds);
  has : (q : ℤ) → list_any (eq_by_cmp int_cmp q) l.set.keys ≡ list_any (eq_by_cmp int_cmp q) (take l.bound-index l.bounds);
}
