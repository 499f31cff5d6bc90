use Rattle.std.proofs.Common.{◌≡◌, rules, ap}
use Rattle.std.specs.Ordering.{is_lt}
use Rattle.std.proofs.lemmas.Fn.{always_returns_same}
use Rattle.std.proofs.lemmas.List.Sorted.{ranks_by}
use Rattle.rollup_kit.specs.Asks.{Attributes, attributes_cmp}
use Rattle.rollup_kit.specs.Groups.{Grouped}
use Rattle.rollup_kit.proofs.SetOrders.{sets_total}
use Rattle.rollup_kit.proofs.SortedRows.{lower, rows_sorted, rows_found}
use Rattle.rollup_kit.proofs.groups.in_order.Goals as goal

pub returns-clause-sorted : goal.returns-clause-sorted
returns-clause-sorted c =
    rows_sorted c.args.groups.items c.sort_by.new.self.items c.in_ok-sort_by.ensures.permutation c.requires
    (c.in_ok-sort_by.ensures.sorted lower (ranks_by sets_total (λ (e : Attributes × Grouped). e.0)) (always_returns_same _ _ _ (λ a r q k. let e : r ≡ attributes_cmp a.0.now.0 a.1.0.now.0 = search rules in (ap is_lt e, search rules))))

pub returns-clause-same : goal.returns-clause-same
returns-clause-same c =
    rows_found c.args.groups.items c.sort_by.new.self.items
    (c.in_ok-sort_by.ensures.stable lower (ranks_by sets_total (λ (e : Attributes × Grouped). e.0)) (always_returns_same _ _ _ (λ a r q k. let e : r ≡ attributes_cmp a.0.now.0 a.1.0.now.0 = search rules in (ap is_lt e, search rules))))
