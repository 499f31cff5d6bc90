use Rattle.std.proofs.Common.{◌≡◌, List, map, ap, subst, ◌∙◌}
use Rattle.std.specs.FinMap.{from_sorted}
use Rattle.std.specs.FinMap.Entries.{is_sorted}
use Rattle.gateway_kit.specs.Keys.{IncarnationKey, item_cmp, keyed_cell_of}
use Rattle.gateway_kit.specs.IncarnationState.{IncarnationState, Cells}
use Rattle.gateway_kit.specs.Recent.{newer, recent_cells}
use Rattle.gateway_kit.specs.Tallies.{IsTally, are_up_to}
use Rattle.gateway_kit.specs.declared.part_item.PartItem.{PartItem}
use Rattle.point_kit.specs.declared.writer_id.WriterId.{WriterId}
use Rattle.gateway_kit.proofs.AllMoves.{own_key}
use Rattle.gateway_kit.proofs.Entries.{as_T, as_true}
use Rattle.gateway_kit.proofs.Recent.{newer_cells, sorted_newer, up_to_newer}
use Rattle.gateway_kit.proofs.incarnation.Incarnation.since.Goals as goal

pub invariant_of-result : goal.invariant_of-result
invariant_of-result c =
    let items = c.self.inside.items.items in
    let is : c.in_ok-items.items.items ≡ newer c.args.number items = c.in_ok-items.ensures ∙ ap (newer c.args.number) c.as_slice.ensures.value in
    record {
      sorted = ap (λ (l : List PartItem). is_sorted item_cmp (map keyed_cell_of l)) is ∙ as_true _ (sorted_newer c.args.number items (as_T c.self.invariant.sorted));
      tallied = subst (λ (l : List PartItem). IsTally (map keyed_cell_of l) c.tally_of-tally.result) c.as_slice-2.ensures.value c.tally_of-tally.ensures;
      bounded = c.none.ensures.items c.in_ok-items.items.items;
      up_to = ap (are_up_to c.self.inside.number) is ∙ up_to_newer c.args.number c.self.inside.number items c.self.invariant.up_to;
    }

pub returns : goal.returns
returns c =
    let items = c.self.inside.items.items in
    let is : c.in_ok-items.items.items ≡ newer c.args.number items = c.in_ok-items.ensures ∙ ap (newer c.args.number) c.as_slice.ensures.value in
    let key : ◌≡◌ {A = IncarnationKey} (c.in_ok-try_copy.field-0, c.self.inside.start) (own_key c.args.self.now) = ap (λ (w : WriterId). (w, c.self.inside.start)) c.in_ok-try_copy.ensures.value ∙ ap (λ (p : IncarnationState). own_key p) c.self.view_is in
    let cells : ◌≡◌ {A = Cells} (from_sorted (map keyed_cell_of c.in_ok-items.items.items)) (recent_cells c.args.number c.args.self.now) =
    ap (λ (l : List PartItem). from_sorted {R = item_cmp} (map keyed_cell_of l)) is ∙ newer_cells c.args.number c.args.self.now c.self.inside.writer c.self.inside.start items c.self.invariant.sorted c.self.view_is in
    λ i. (key i, cells i)
