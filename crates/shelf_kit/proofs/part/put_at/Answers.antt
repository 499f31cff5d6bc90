use Rattle.std.proofs.Common.{sym, subst, arith}
use Rattle.std.proofs.lemmas.Slice.Zip.{AllZip-long}
use Rattle.shelf_kit.specs.Shelving.{AreTops}
use Rattle.shelf_kit.proofs.Begins.{few_starts, long_starts}
use Rattle.shelf_kit.proofs.Put.{held_at_err, put_bounds, put_items, put_shelved, put_tops}
use Rattle.shelf_kit.proofs.Same.{kept_shelved}
use Rattle.shelf_kit.proofs.part.put_at.Goals as goal

pub add_from-requires-clause-within : goal.add_from-requires-clause-within
add_from-requires-clause-within g c =
    let long = long_starts c.args.shelves.now.items c.args.starts.now.items c.args.len c.requires.shelved in
    let within = c.locate-shelf.ensures.within in
    omega (arith, long, within)

pub add_from-requires-clause-small : goal.add_from-requires-clause-small
add_from-requires-clause-small g c = λ k d h.
    let few = few_starts c.args.shelves.now.items c.args.starts.now.items c.args.len c.requires.shelved _ k d h in
    let small = c.requires.small in
    omega (arith, few, small)

pub raise_at-requires : goal.raise_at-requires
raise_at-requires g c =
    let long = AllZip-long _ c.args.shelves.now.items c.args.tops.now.items c.requires.topped in
    let within = c.locate-shelf.ensures.within in
    omega (arith, long, within)

pub returns-in_err-put_on-clause-kept : goal.returns-in_err-put_on-clause-kept
returns-in_err-put_on-clause-kept g c = held_at_err _ (kept_shelved c.locate-shelf.ensures.within c.in_err-put_on.ensures.unchanged c.requires.shelved)

pub returns-clause-shelved : goal.returns-clause-shelved
returns-clause-shelved g c = put_shelved c.locate-shelf.ensures c.in_ok-put_on.ensures.ok c.requires.shelved c.add_from.ensures c.requires.up_to

pub returns-clause-items : goal.returns-clause-items
returns-clause-items g c = put_items c.locate-shelf.ensures c.in_ok-put_on.ensures.ok

pub returns-clause-bounds : goal.returns-clause-bounds
returns-clause-bounds g c = put_bounds c.locate-shelf.ensures c.in_ok-put_on.ensures.ok c.requires.shelved

pub returns-clause-topped : goal.returns-clause-topped
returns-clause-topped g c = subst (λ ns. AreTops c.put_on.new.shelves.items ns) (sym c.raise_at.ensures) (put_tops c.locate-shelf.ensures c.in_ok-put_on.ensures.ok c.args.tops.now.items c.requires.topped)
