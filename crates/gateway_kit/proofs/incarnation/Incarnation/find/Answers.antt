use Rattle.std.proofs.Common.{Some, sym, ap, ◌∙◌}
use Rattle.gateway_kit.specs.declared.part_item.PartItem.{PartItem}
use Rattle.std.specs.FinMap.{get-entries}
use Rattle.std.specs.FinMap.Entries.{find}
use Rattle.gateway_kit.specs.Keys.{keyed_cell_of, item_cmp}
use Rattle.gateway_kit.proofs.Drafting.{found_place}
use Rattle.gateway_kit.proofs.Entries.{as_T}
use Rattle.gateway_kit.specs.KeyOrders.{item_total}
use Rattle.gateway_kit.proofs.incarnation.Incarnation.find.Goals as goal

pub returns-in-Ok : goal.returns-in-Ok
returns-in-Ok c =
    ap (λ (x : PartItem). Some x.cell) (sym c.index-items-place.is)
    ∙ sym (get-entries c.args.self.now.cells (c.args.stream.now, c.args.attrs.now) ∙ ap (find item_cmp (c.args.stream.now, c.args.attrs.now)) (sym c.items-items.ensures.entries)
    ∙ found_place keyed_cell_of item_total c.items-items.result.now c.in-Ok.place c.index-items-place.result (c.args.stream.now, c.args.attrs.now) (as_T c.items-items.ensures.sorted) c.in-Ok.ensures c.index-items-place.is)

pub returns-in-Err : goal.returns-in-Err
returns-in-Err c =
    sym (get-entries c.args.self.now.cells (c.args.stream.now, c.args.attrs.now) ∙ ap (find item_cmp (c.args.stream.now, c.args.attrs.now)) (sym c.items-items.ensures.entries) ∙ c.in-Err.ensures.none)
