use Rattle.std.proofs.Common.{◌<◌, ◌≤◌, length, ap, arith}
use Rattle.std.proofs.lemmas.Slice.Zip.{AllZip-long}
use Rattle.shelf_kit.proofs.Above.{all_passed, found_here, none_here}
use Rattle.shelf_kit.proofs.Begins.{long_starts}
use Rattle.shelf_kit.proofs.Bounds.{length_bounds}
use Rattle.shelf_kit.proofs.part.above_from.Goals as goal

pub index-start-requires : goal.index-start-requires
index-start-requires g c =
    let long = long_starts c.args.shelves.now.items c.args.starts.now.items c.args.len c.requires.shelved in
    let less = c.on-test.true in
    omega (arith, long, less)

pub first_above-shelf-requires : goal.first_above-shelf-requires
first_above-shelf-requires g c =
    let same = ap length c.as_slice.ensures.value in
    let long = AllZip-long _ c.args.shelves.now.items c.args.tops.now.items c.requires.topped in
    let less = c.on-test.true in
    omega (arith, same, long, less)

pub overflow_add-result : goal.overflow_add-result
overflow_add-result g c =
    let told = rw c.as_slice-bounds.ensures.value at c.first_above-place.ensures in
    let same = ap length c.as_slice-bounds.ensures.value in
    let test = c.if-place-bounds.true in
    let less : c.first_above-place.result < length c.index.result.now.bounds.items = omega (arith, same, test) in
    let found = found_here c.requires.shelved c.on.invariant (omega arith) c.index.ensures told.on told.within told.passed c.index-start.ensures less (told.above less) in
    let within = found.within in
    let many = length_bounds c.args.shelves.now.items c.requires.shelved.filled in
    let all = c.requires.shelved.counted in
    omega (arith, within, many, all)

pub returns-then-place-bounds : goal.returns-then-place-bounds
returns-then-place-bounds g c =
    let told = rw c.as_slice-bounds.ensures.value at c.first_above-place.ensures in
    let same = ap length c.as_slice-bounds.ensures.value in
    let test = c.if-place-bounds.true in
    let less : c.first_above-place.result < length c.index.result.now.bounds.items = omega (arith, same, test) in
    found_here c.requires.shelved c.on.invariant (omega arith) c.index.ensures told.on told.within told.passed c.index-start.ensures less (told.above less)

pub on-preserved : goal.on-preserved
on-preserved g c =
    let told = rw c.as_slice-bounds.ensures.value at c.first_above-place.ensures in
    let same = ap length c.as_slice-bounds.ensures.value in
    let test = c.if-place-bounds.false in
    let all : length c.index.result.now.bounds.items ≤ c.first_above-place.result = omega (arith, same, test) in
    let tops = rw c.as_slice.ensures.value at c.first_above-shelf.ensures in
    none_here c.requires.shelved c.on.invariant (omega arith) c.index.ensures told.on told.within told.passed c.args.tops.now.items c.requires.topped all tops.on tops.within tops.passed

pub returns : goal.returns
returns g c = all_passed c.requires.shelved c.on.invariant (omega (arith, c.on-test.false))
