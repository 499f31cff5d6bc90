use Rattle.std.proofs.Common.{arith, ◌∙◌}
use Rattle.std.proofs.lemmas.List.{get_or_default}
use Rattle.shelf_kit.proofs.Begins.{first_start, located, some_starts}
use Rattle.shelf_kit.proofs.part.locate.Goals as goal

pub shelf_of-shelf-requires-clause-some : goal.shelf_of-shelf-requires-clause-some
shelf_of-shelf-requires-clause-some g c = rw c.as_slice.ensures.value (some_starts c.args.shelves.now.items c.args.starts.now.items c.args.len c.requires.shelved c.requires.some)

pub shelf_of-shelf-requires-clause-first : goal.shelf_of-shelf-requires-clause-first
shelf_of-shelf-requires-clause-first g c = rw c.as_slice.ensures.value (let e = first_start c.args.shelves.now.items c.args.starts.now.items c.args.len c.requires.shelved in omega (arith, e))

pub returns : goal.returns
returns g c =
    let starts = c.args.starts.now.items in
    let told = rw c.as_slice.ensures.value at c.shelf_of-shelf.ensures in
    let start = c.index.ensures ∙ get_or_default starts c.shelf_of-shelf.result c.index.result.now 0 told.within in
    located c.args.shelves.now.items starts c.args.len c.requires.shelved c.shelf_of-shelf.result c.index.result.now c.args.index told.within start (let low = told.from in omega (arith, start, low)) told.until c.requires.up_to
