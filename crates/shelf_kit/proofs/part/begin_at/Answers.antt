use Rattle.std.proofs.Common.{◌<◌, length, sym, ◌∙◌, arith}
use Rattle.shelf_kit.proofs.Begins.{begin_all, long_starts, start_at, start_read}
use Rattle.shelf_kit.proofs.part.begin_at.Goals as goal

pub returns-then-shelf-len : goal.returns-then-shelf-len
returns-then-shelf-len g c =
    let xs = c.args.shelves.now.items in
    let long = long_starts xs c.args.starts.now.items c.args.len c.requires.shelved in
    let less = c.if-shelf-len.true in
    let count = c.len.ensures in
    let within : c.args.shelf < length xs = omega (arith, long, less, count) in
    start_read xs c.args.starts.now.items c.args.shelf c.index.result.now c.requires.shelved.begins within c.index.ensures ∙ start_at xs c.args.shelf within

pub returns-else-shelf-len : goal.returns-else-shelf-len
returns-else-shelf-len g c =
    let long = long_starts c.args.shelves.now.items c.args.starts.now.items c.args.len c.requires.shelved in
    let more = c.if-shelf-len.false in
    let count = c.len.ensures in
    let most = c.requires.up_to in
    c.requires.shelved.counted ∙ sym (begin_all c.args.shelves.now.items c.args.shelf (omega (arith, long, more, count, most)))
