use Rattle.std.proofs.Common.{◌≡◌, ◌<◌, ℕ, List, length, sym, subst, arith, rules}
use Rattle.std.specs.List.{remove}
use Rattle.std.proofs.lemmas.Slice.Zip.{AllZip-long}
use Rattle.shelf_kit.specs.Shelving.{AreTops}
use Rattle.shelf_kit.specs.declared.shelf.Shelf.{Shelf}
use Rattle.shelf_kit.proofs.Begins.{later_starts, long_starts}
use Rattle.shelf_kit.proofs.Taken.{long_left, removes_gone, removes_left, tops_left}
use Rattle.shelf_kit.proofs.Tops.{tops_remove}
use Rattle.shelf_kit.proofs.part.take_at.Goals as goal

pub subtract_from-requires-clause-within : goal.subtract_from-requires-clause-within
subtract_from-requires-clause-within g c =
    let long = long_starts c.args.shelves.now.items c.args.starts.now.items c.args.len c.requires.shelved in
    let within = c.locate-shelf.ensures.within in
    omega (arith, long, within)

pub subtract_from-requires-clause-some : goal.subtract_from-requires-clause-some
subtract_from-requires-clause-some g c = later_starts c.args.shelves.now.items c.args.starts.now.items c.args.len c.requires.shelved c.locate-shelf.result.0

pub returns-then-not-is_empty-clause-removes : goal.returns-then-not-is_empty-clause-removes
returns-then-not-is_empty-clause-removes g c =
    let some : 0 < length c.index.result.now.items.items = search rules in
    removes_left c.locate-shelf.ensures c.take_off-value.ensures c.requires.shelved c.requires.inside c.index.ensures c.subtract_from.ensures some

pub returns-then-not-is_empty-clause-topped : goal.returns-then-not-is_empty-clause-topped
returns-then-not-is_empty-clause-topped g c = tops_left c.locate-shelf.ensures c.take_off-value.ensures c.args.tops.now.items c.requires.topped

pub remove-requires-2 : goal.remove-requires-2
remove-requires-2 g c =
    let long = long_left c.locate-shelf.ensures c.take_off-value.ensures c.requires.shelved c.requires.inside c.index.ensures c.subtract_from.ensures in
    omega (arith, long)

pub remove-requires-3 : goal.remove-requires-3
remove-requires-3 g c =
    let long = AllZip-long _ c.args.shelves.now.items c.args.tops.now.items c.requires.topped in
    let within = c.locate-shelf.ensures.within in
    omega (arith, long, within)

pub returns-clause-removes : goal.returns-clause-removes
returns-clause-removes g c =
    let none : length c.index.result.now.items.items ≡ 0 = search rules in
    removes_gone c.locate-shelf.ensures c.take_off-value.ensures c.requires.shelved c.requires.inside c.index.ensures c.subtract_from.ensures none c.remove.ensures.items c.remove-2.ensures.items

pub returns-clause-topped : goal.returns-clause-topped
returns-clause-topped g c =
    let left = tops_left c.locate-shelf.ensures c.take_off-value.ensures c.args.tops.now.items c.requires.topped in
    let gone = tops_remove c.take_off-value.new.shelves.items c.args.tops.now.items c.locate-shelf.result.0 left in
    subst (λ (ns : List ℕ). AreTops c.remove.new.self.items ns) (sym c.remove-3.ensures.items)
    (subst (λ (zs : List (Shelf g.row.T.Denot)). AreTops zs (remove c.args.tops.now.items c.locate-shelf.result.0)) (sym c.remove.ensures.items) gone)
