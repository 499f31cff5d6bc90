use Rattle.std.proofs.Common.{sym, ap, ◌∙◌}
use Rattle.std.specs.List.{list_any}
use Rattle.gateway_kit.specs.Queries.{in_stream}
use Rattle.gateway_kit.specs.Keys.{key_and_number, keyed_cell_of}
use Rattle.gateway_kit.specs.declared.part_item.PartItem.{PartItem}
use Rattle.gateway_kit.proofs.ItemMoves.{numbers_in}
use Rattle.gateway_kit.proofs.Narrowed.{any_map}
use Rattle.gateway_kit.proofs.OneCell.{cells_of}
use Rattle.gateway_kit.proofs.incarnation.Incarnation.has_stream.Goals as goal

pub returns-clause-cells : goal.returns-clause-cells
returns-clause-cells c =
    let s = c.args.stream.now in
    let items = c.self.inside.items.items in
    c.any_in.ensures ∙ ap (list_any (λ (i : PartItem). in_stream s (i.stream, i.attrs))) c.as_slice.ensures.value ∙ any_map keyed_cell_of (λ e. in_stream s e.0) items
    ∙ ap (list_any (λ e. in_stream s e.0)) (sym (cells_of c.args.self.now c.self.inside.writer c.self.inside.start items c.self.invariant.sorted c.self.view_is))

pub returns-clause-numbers : goal.returns-clause-numbers
returns-clause-numbers c =
    let s = c.args.stream.now in
    let items = c.self.inside.items.items in
    c.any_in.ensures ∙ ap (list_any (λ (i : PartItem). in_stream s (i.stream, i.attrs))) c.as_slice.ensures.value ∙ any_map key_and_number (λ e. in_stream s e.0) items
    ∙ ap (list_any (λ e. in_stream s e.0)) (sym (numbers_in c.args.self.now c.self.inside.writer c.self.inside.start items c.self.invariant.sorted c.self.view_is))
