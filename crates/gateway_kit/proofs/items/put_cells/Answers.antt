use Rattle.std.proofs.Common.{map, refl, ap, sym, ◌∙◌}
use Rattle.gateway_kit.specs.Amending.{with_change}
use Rattle.gateway_kit.specs.Changing.{replacement}
use Rattle.gateway_kit.specs.Keys.{keyed_cell_of}
use Rattle.gateway_kit.proofs.Entries.{with_changes-push}
use Rattle.gateway_kit.proofs.ItemMoves.{items_stay, items_then}
use Rattle.gateway_kit.specs.KeyOrders.{item_total}
use Rattle.gateway_kit.proofs.items.put_cells.Goals as goal

pub loop-place-init : goal.loop-place-init
loop-place-init c = record { put = refl; tally = c.requires; moves = items_stay c.args.number c.args.items.now.items; bounded = λ h. h; up_to = λ n g h. h }

pub loop-place-preserved : goal.loop-place-preserved
loop-place-preserved c = record {
  put =
      c.put_cell-tally.ensures.put
      ∙ ap (λ es. with_change replacement es c.in-Some.place c.in-Some.cell) c.loop-place.invariant.put
      ∙ sym (with_changes-push item_total replacement (map keyed_cell_of c.args.items.now.items) c.loop-place.yielded c.in-Some.place c.in-Some.cell);
  tally = c.put_cell-tally.ensures.tally;
  moves = items_then c.args.number c.args.items.now.items c.loop-place.items.items c.put_cell-tally.new.items.items c.loop-place.invariant.moves c.put_cell-tally.ensures.moves;
  bounded = λ h. c.put_cell-tally.ensures.bounded (c.loop-place.invariant.bounded h);
  up_to = λ n g h. c.put_cell-tally.ensures.up_to n g (c.loop-place.invariant.up_to n g h);
}
