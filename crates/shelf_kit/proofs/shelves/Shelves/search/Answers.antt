use Rattle.std.proofs.Common.{◌-◌, ◌^◌, length, sym, ap, subst, arith}
use Rattle.std.specs.List.Sorted.{IsBinarySearchResult, IsSearchInRange}
use Rattle.shelf_kit.specs.Shelved.{Shelved}
use Rattle.shelf_kit.proofs.Found.{found_seen, range_seen, range_weaker}
use Rattle.shelf_kit.proofs.Places.{seen_len}
use Rattle.shelf_kit.proofs.shelves.Shelves.search.Goals as goal

pub begin_at-start-requires-clause-up_to : goal.begin_at-start-requires-clause-up_to
begin_at-start-requires-clause-up_to g c = let told = rw c.as_slice.ensures.value at c.shelf_for-shelf.ensures in let here = told.within in omega (arith, here)

pub found_from-requires : goal.found_from-requires
found_from-requires g c =
    let xs = c.self.inside.shelves.items in
    let told = rw c.as_slice.ensures.value at c.shelf_for-shelf.ensures in
    let range = rw c.as_slice-2.ensures.value at c.search_on.ensures.bound in
    let sees = ap (λ (v : Shelved g.row.T.Denot). v.items) c.self.view_is in
    let seen = seen_len xs c.self.inside.starts.items c.self.inside.len c.self.invariant.0 c.args.self.now c.self.view_is in
    range_weaker _ (length c.args.self.now.items) (2 ^ 64 - 1) (omega (arith, seen))
    (range_seen (g.P.Target.order_of c.args.target.now) xs c.shelf_for-shelf.result c.index.result.now told.within c.index.ensures c.self.invariant.0.filled told.before told.after
    c.args.self.now sees c.begin_at-start.result c.begin_at-start.ensures c.search_on.result range)

pub returns : goal.returns
returns g c =
    let xs = c.self.inside.shelves.items in
    let told = rw c.as_slice.ensures.value at c.shelf_for-shelf.ensures in
    let on_shelf = rw c.as_slice-2.ensures.value at c.search_on.ensures in
    let sees = ap (λ (v : Shelved g.row.T.Denot). v.items) c.self.view_is in
    record {
      bound = subst (λ r. IsSearchInRange r (length c.args.self.now.items)) (sym c.found_from.ensures)
          (range_seen (g.P.Target.order_of c.args.target.now) xs c.shelf_for-shelf.result c.index.result.now told.within c.index.ensures c.self.invariant.0.filled told.before told.after
          c.args.self.now sees c.begin_at-start.result c.begin_at-start.ensures c.search_on.result on_shelf.bound);
      position = subst (λ r. IsBinarySearchResult (g.P.Target.order_of c.args.target.now) c.args.self.now.items r) (sym c.found_from.ensures)
          (found_seen (g.P.Target.order_of c.args.target.now) xs c.shelf_for-shelf.result c.index.result.now told.within c.index.ensures c.self.invariant.0.filled told.before told.after
          c.args.self.now sees c.begin_at-start.result c.begin_at-start.ensures c.search_on.result on_shelf.bound on_shelf.position);
    }
