use Rattle.std.proofs.Common.{◌≡◌, ◌<◌, List, get_or, map, take, length, ap, sym, subst, ◌∙◌, refl, arith}
use Rattle.std.proofs.lemmas.Grind.{common_steps}
use Rattle.std.proofs.lemmas.List.{take-map}
use Rattle.std.proofs.lemmas.Result.{IfOk-weaker}
use Rattle.std.specs.List.{IsDistinct}
use Rattle.std.specs.Ordering.{eq_by_cmp}
use Rattle.gateway_kit.specs.Changing.{Drafts, Prepares, keyed_cells_of}
use Rattle.gateway_kit.specs.Keys.{ItemKey, keyed_cell_of, item_cmp}
use Rattle.gateway_kit.specs.declared.changes.Changes.{Changes}
use Rattle.gateway_kit.specs.declared.part_item.PartItem.{PartItem}
use Rattle.gateway_kit.proofs.ExportEntries.{first_point, more_points, keys_of_items}
use Rattle.gateway_kit.proofs.trail.draft_changes.Goals as goal

pub loop-point-init : goal.loop-point-init
loop-point-init c = record { same = refl; drafts = c.new-draft.ensures (map keyed_cell_of c.args.items.now.items) }

pub loop-point-preserved : goal.loop-point-preserved
loop-point-preserved c =
    let e = c.args.export.now in
    let i = c.loop-point.point-index in
    let x = c.point-item.result in
    let within : i < length e.points = grind (arith, common_steps) in
    let listed : c.points-point-items.result.now ≡ e.points = c.points-point-items.ensures.value in
    let at : x ≡ get_or e.points i x = c.point-item.is ∙ ap (λ l. get_or l i x) listed in
    let same : c.note_next.new.items.items ≡ c.args.items.now.items = c.note_next.ensures ∙ c.loop-point.invariant.same in
    let now : c.as_slice-in-loop-point-2.result.now ≡ c.args.items.now.items = c.as_slice-in-loop-point-2.ensures.value ∙ same in
    let so_far : Drafts (map keyed_cell_of c.as_slice-in-loop-point-2.result.now) (take i (keyed_cells_of e)) c.loop-point.draft.updates.items c.loop-point.draft.fresh.items = subst (λ (is : List PartItem). Drafts (map keyed_cell_of is) (take i (keyed_cells_of e)) c.loop-point.draft.updates.items c.loop-point.draft.fresh.items) (sym now) c.loop-point.invariant.drafts in
    let stepped = c.in_ok-bring.ensures (take i (keyed_cells_of e)) (first_point e i x within at) so_far in
    record { same = same; drafts = rw (more_points e i x within at, ← now) (rw c.time.ensures.value at stepped) }

pub finish-requires : goal.finish-requires
finish-requires c = subst (λ (ks : List ItemKey). IsDistinct (eq_by_cmp item_cmp) ks) (keys_of_items c.loop-point.draft.fresh.items) c.loop-point.invariant.drafts.brings.apart

pub returns-clause-prepares : goal.returns-clause-prepares
returns-clause-prepares c =
    let items : c.as_slice-2.result.now ≡ c.args.items.now.items = c.as_slice-2.ensures.value ∙ c.loop-point.invariant.same in
    let whole : take c.loop-point.point-index (keyed_cells_of c.args.export.now) ≡ keyed_cells_of c.args.export.now = take-map _ c.loop-point.point-index c.args.export.now.points ∙ ap (map _) (grind (arith, common_steps)) in
    IfOk-weaker c.finish.result _ (λ (h : Changes). Prepares (map keyed_cell_of c.args.items.now.items) (keyed_cells_of c.args.export.now) h) (λ h told. rw (← items) (told (keyed_cells_of c.args.export.now) (rw items c.requires) (rw (items, ← whole) c.loop-point.invariant.drafts))) c.finish.ensures
