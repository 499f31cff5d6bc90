use Rattle.std.proofs.Common.{◌≡◌, ◌≤◌, List, map, refl, ap, sym, subst, ◌∙◌, true, arith}
use Rattle.std.specs.FinMap.{entries, from_sorted, entries-from_sorted}
use Rattle.std.specs.FinMap.Entries.{is_sorted}
use Rattle.gateway_kit.specs.Bounding.{AreBounds}
use Rattle.gateway_kit.specs.declared.part_item.PartItem.{PartItem}
use Rattle.gateway_kit.specs.Changing.{KeyedCell, after_growth, replacement}
use Rattle.gateway_kit.specs.Keys.{IncarnationKey, item_cmp, keyed_cell_of}
use Rattle.gateway_kit.specs.IncarnationState.{IncarnationState}
use Rattle.gateway_kit.proofs.AllMoves.{own_key}
use Rattle.gateway_kit.proofs.Entries.{as_T, is_sorted-with_changes}
use Rattle.gateway_kit.proofs.Finishing.{installed, sorted_grown}
use Rattle.gateway_kit.proofs.ItemMoves.{items_then, incarnation_moves, up_to_more}
use Rattle.gateway_kit.specs.KeyOrders.{item_total}
use Rattle.gateway_kit.proofs.incarnation.Incarnation.install.Goals as goal

pub put_items-self-inside-requires-clause-sorted : goal.put_items-self-inside-requires-clause-sorted
put_items-self-inside-requires-clause-sorted c = ap (is_sorted item_cmp) c.put_cells-tally.ensures.put ∙ is_sorted-with_changes item_total replacement (map keyed_cell_of c.self.inside.items.items) c.args.changes.updates.items ∙ c.self.invariant.sorted

pub invariant_of-self : goal.invariant_of-self
invariant_of-self c =
    let told : map keyed_cell_of c.put_items-self-inside.new.items.items ≡ after_growth (map keyed_cell_of c.self.inside.items.items) c.args.changes = installed c.self.inside.items.items c.put_cells-tally.new.items.items (map keyed_cell_of c.put_items-self-inside.new.items.items) c.args.changes c.put_cells-tally.ensures.put c.put_items-self-inside.ensures.woven in
    let most = c.max-self-inside.ensures in
    let within : c.args.number ≤ c.max-self-inside.result = omega (arith, most) in
    let up : c.self.inside.number ≤ c.max-self-inside.result = omega (arith, most) in
    record {
      sorted = subst (λ (es : List KeyedCell). is_sorted item_cmp es ≡ true) (sym told) (sorted_grown (map keyed_cell_of c.self.inside.items.items) c.args.changes c.self.invariant.sorted);
      tallied = c.put_items-self-inside.ensures.tally;
      bounded = subst (λ (l : List PartItem). AreBounds c.complete.new.self l) c.as_slice.ensures.value
          (c.complete.ensures (subst (λ (l : List PartItem). AreBounds c.put_items-self-inside.new.bounds l) (sym c.as_slice.ensures.value) (c.put_items-self-inside.ensures.bounded (c.put_cells-tally.ensures.bounded c.self.invariant.bounded))));
      up_to = c.put_items-self-inside.ensures.up_to c.max-self-inside.result within (c.put_cells-tally.ensures.up_to c.max-self-inside.result within (up_to_more c.self.inside.items.items c.self.inside.number c.max-self-inside.result up c.self.invariant.up_to));
    }

pub returns-clause-cells : goal.returns-clause-cells
returns-clause-cells c =
    let told : map keyed_cell_of c.put_items-self-inside.new.items.items ≡ after_growth (map keyed_cell_of c.self.inside.items.items) c.args.changes = installed c.self.inside.items.items c.put_cells-tally.new.items.items (map keyed_cell_of c.put_items-self-inside.new.items.items) c.args.changes c.put_cells-tally.ensures.put c.put_items-self-inside.ensures.woven in
    let key : IncarnationKey = (c.self.inside.writer, c.self.inside.start) in
    ap (λ (es : List KeyedCell). (key, from_sorted {R = item_cmp} es)) told
    ∙ ap (λ (es : List KeyedCell). (key, from_sorted {R = item_cmp} (after_growth es c.args.changes))) (sym (entries-from_sorted item_cmp (map keyed_cell_of c.self.inside.items.items) (as_T c.self.invariant.sorted)))
    ∙ ap (λ (p : IncarnationState). (own_key p, from_sorted {R = item_cmp} (after_growth (entries p.cells) c.args.changes))) c.self.view_is

pub returns-clause-moves : goal.returns-clause-moves
returns-clause-moves c =
    let items = c.self.inside.items.items in
    let news = c.put_items-self-inside.new.items.items in
    let told : map keyed_cell_of news ≡ after_growth (map keyed_cell_of items) c.args.changes = installed items c.put_cells-tally.new.items.items (map keyed_cell_of news) c.args.changes c.put_cells-tally.ensures.put c.put_items-self-inside.ensures.woven in
    let sorted : is_sorted item_cmp (map keyed_cell_of news) ≡ true = ap (is_sorted item_cmp) told ∙ sorted_grown (map keyed_cell_of items) c.args.changes c.self.invariant.sorted in
    incarnation_moves c.args.number c.args.self.now _ c.self.inside.writer c.self.inside.writer c.self.inside.start c.self.inside.start items news c.self.invariant.sorted sorted c.self.view_is refl
    (items_then c.args.number items c.put_cells-tally.new.items.items news c.put_cells-tally.ensures.moves c.put_items-self-inside.ensures.moves)
