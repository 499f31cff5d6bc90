use Rattle.std.proofs.Common.{refl}
use Rattle.std.specs.Prelude.{slice_set}
use Rattle.shelf_kit.specs.Shelving.{Keeps}
use Rattle.shelf_kit.proofs.Put.{held_at_err}
use Rattle.shelf_kit.proofs.part.put_on.Goals as goal

pub returns-in_err-put-clause-unchanged : goal.returns-in_err-put-clause-unchanged
returns-in_err-put-clause-unchanged g c =
    let kept : Keeps c.args.shelves.now.items (slice_set c.args.shelves.now.items c.args.shelf c.put.new.self) c.args.shelf = record {
      old = c.index_mut.result.now;
      new = c.put.new.self;
      changes = record { at = c.index_mut.ensures.value; is = refl };
      items = c.in_err-put.ensures.same_items;
      bounds = c.in_err-put.ensures.same_bounds;
    } in
    held_at_err _ kept
