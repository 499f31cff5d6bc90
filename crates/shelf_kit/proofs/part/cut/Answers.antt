use Rattle.std.proofs.Common.{◌≡◌, ◌+◌, List, get_or, ap, ◌∙◌, arith, rules}
use Rattle.std.specs.Prelude.{slice_set}
use Rattle.std.specs.List.{insert}
use Rattle.shelf_kit.specs.declared.shelf.Shelf.{Shelf}
use Rattle.shelf_kit.proofs.part.cut.Goals as goal

pub returns-clause-ok : goal.returns-clause-ok
returns-clause-ok g c =
    let ys = c.reserve.new.self.items in
    let s = c.args.shelf in
    let same : ys ≡ c.args.shelves.now.items = c.reserve.ensures.items in
    let old = c.index_mut.result.now in
    let one : Shelf g.row.T.Denot = c.split_off.new.self in
    let two : Shelf g.row.T.Denot = c.in_ok-behind.behind in
    let was : old ≡ get_or c.args.shelves.now.items s old = c.index_mut.ensures.value ∙ ap (λ (l : List (Shelf g.row.T.Denot)). get_or l s old) same in
    let put : c.insert.new.self.items ≡ insert (slice_set ys s one) (s + 1) two = search rules in
    let fits = c.requires.fits old was in
    record {
      old = old;
      one = one;
      two = two;
      was = was;
      fits = omega (arith, fits);
      is = put ∙ ap (λ (l : List (Shelf g.row.T.Denot)). insert (slice_set l s one) (s + 1) two) same;
      items_one = c.in_ok-behind.ensures.items;
      items_two = c.in_ok-behind.ensures.items_behind;
      bounds_one = c.in_ok-behind.ensures.bounds;
      bounds_two = c.in_ok-behind.ensures.bounds_behind;
    }
