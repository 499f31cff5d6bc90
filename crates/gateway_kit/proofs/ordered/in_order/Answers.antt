use Rattle.std.proofs.Common.{◌≡◌, rules, ap, subst}
use Rattle.std.specs.Ordering.{is_lt}
use Rattle.std.proofs.lemmas.Fn.{always_returns_same}
use Rattle.std.proofs.lemmas.List.Sorted.{IsPermutation-refl, ranks_by}
use Rattle.gateway_kit.specs.Weave.{Rises, by_key}
use Rattle.gateway_kit.proofs.Entries.{as_true}
use Rattle.gateway_kit.proofs.Sorting.{rising_neighbours, lower, sorted_strictly, same_found}
use Rattle.gateway_kit.proofs.ordered.in_order.Goals as goal

pub returns-then-rises-clause-sorted : goal.returns-then-rises-clause-sorted
returns-then-rises-clause-sorted g c =
    as_true _ (rising_neighbours g.met.T.Keyed.total g.T.Keyed.entry c.args.values.items (subst (Rises (by_key g.T.Keyed.compare g.T.Keyed.entry)) c.as_slice.ensures.value (c.rises.ensures.rises c.if-rises.true)))

pub returns-then-rises-clause-moved : goal.returns-then-rises-clause-moved
returns-then-rises-clause-moved g c = IsPermutation-refl c.args.values.items

pub returns-clause-sorted : goal.returns-clause-sorted
returns-clause-sorted g c =
    let K = g.T.Keyed in
    as_true _ (sorted_strictly g.met.T.Keyed.total K.entry c.args.values.items c.sort_by.new.self.items c.in_ok-sort_by.ensures.permutation c.requires
    (c.in_ok-sort_by.ensures.sorted (lower g.met.T.Keyed.total K.entry) (ranks_by g.met.T.Keyed.total (λ x. (K.entry x).0)) (always_returns_same _ _ _ (λ a r q k. let e : r ≡ K.compare (K.entry a.0.now).0 (K.entry a.1.0.now).0 = search rules in (ap is_lt e, search rules)))))

pub returns-clause-same : goal.returns-clause-same
returns-clause-same g c = λ q.
    let K = g.T.Keyed in
    same_found g.met.T.Keyed.total K.entry g.met.T.Keyed.exact q c.args.values.items c.sort_by.new.self.items
    (c.in_ok-sort_by.ensures.stable (lower g.met.T.Keyed.total K.entry) (ranks_by g.met.T.Keyed.total (λ x. (K.entry x).0)) (always_returns_same _ _ _ (λ a r q k. let e : r ≡ K.compare (K.entry a.0.now).0 (K.entry a.1.0.now).0 = search rules in (ap is_lt e, search rules))))
