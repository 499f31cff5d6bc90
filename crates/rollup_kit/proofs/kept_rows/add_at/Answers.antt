use Rattle.std.proofs.Common.{◌≡◌, ◌<◌, ◌∙◌, Some, length, slice_get, ap, sym, arith}
use Rattle.indexmap.specs.IndexMap.{set_value_at}
use Rattle.rollup_kit.proofs.Indexed.{row_read_at, written, key_at}
use Rattle.rollup_kit.proofs.kept_rows.add_at.Goals as goal

pub add-requires-clause-points : goal.add-requires-clause-points
add-requires-clause-points c =
    let within : c.args.place < length c.args.rows.now.items = omega arith in
    (c.requires.room c.args.place c.index_mut.result.now (row_read_at c.args.rows.now.items c.args.place c.index_mut.result.now within c.index_mut.ensures.value)).0

pub add-requires-clause-conflicts : goal.add-requires-clause-conflicts
add-requires-clause-conflicts c =
    let within : c.args.place < length c.args.rows.now.items = omega arith in
    (c.requires.room c.args.place c.index_mut.result.now (row_read_at c.args.rows.now.items c.args.place c.index_mut.result.now within c.index_mut.ensures.value)).1

pub returns : goal.returns
returns c = λ set there.
    let rows = c.args.rows.now.items in
    let place = c.args.place in
    let row = c.index_mut.result.now in
    let within : c.args.place < length c.args.rows.now.items = omega arith in
    let here : slice_get rows place ≡ Some row = row_read_at rows place row within c.index_mut.ensures.value in
    let keys : Some row.0 ≡ Some set = sym (key_at rows place row.0 row.1 here) ∙ there in
    let same : row.0 ≡ set = cc in
    (row.1, here ∙ (λ i. Some (same i, row.1)), written rows place row.0 row.1 c.add.new.self here ∙ ap (set_value_at rows place) c.add.ensures)
