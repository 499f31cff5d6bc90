use Rattle.std.proofs.Common.{◌≡◌, ℕ, ◌+◌, ◌≤◌, ◌^◌, true, List, map, ap, sym, subst, ◌∙◌, arith}
use Rattle.std.proofs.lemmas.Grind.{common_steps}
use Rattle.std.specs.Prelude.{T}
use Rattle.std.specs.List.{IsDistinct}
use Rattle.std.specs.Ordering.{eq_by_cmp}
use Rattle.std.specs.FinMap.Entries.{is_sorted}
use Rattle.gateway_kit.specs.Amending.{with_changes}
use Rattle.gateway_kit.specs.Covering.{AreCovered}
use Rattle.gateway_kit.specs.Inserting.{AllPart, inserted, moved_to, moving}
use Rattle.gateway_kit.specs.Incarnations.{has_cells, keyed_cells}
use Rattle.gateway_kit.specs.IncarnationState.{IncarnationState, Cells}
use Rattle.gateway_kit.specs.KeyOrders.{incarnation_total}
use Rattle.gateway_kit.specs.Keys.{IncarnationKey, incarnation_cmp}
use Rattle.gateway_kit.specs.Merging.{MergeDrafts, PutsAll, cells_after, key_of}
use Rattle.gateway_kit.specs.Tallies.{conflicts_of}
use Rattle.gateway_kit.specs.Weave.{weave}
use Rattle.gateway_kit.specs.declared.changes.Changes.{Changes}
use Rattle.gateway_kit.proofs.Entries.{as_T, keys-with_changes, on_keys}
use Rattle.gateway_kit.proofs.Inserted.{all_changes_moved, all_woven}
use Rattle.gateway_kit.proofs.MergeDrafts.{keys_of_incarnations, incarnations_merged}
use Rattle.gateway_kit.proofs.Merged.{merged_grown, merged_whole}
use Rattle.gateway_kit.proofs.Same.{map_itself}
use Rattle.gateway_kit.proofs.Sorting.{all_moved}
use Rattle.gateway_kit.proofs.Tallies.{whole_few}
use Rattle.gateway_kit.proofs.merging.merge_in.Goals as goal

-- new incarnations put in, and then the changes of others, are these woven in after the changes
changed_woven : (olds fresh : List IncarnationState) (places : List ℕ) (updates : List (ℕ × Changes)) (mid news : List (IncarnationKey × Cells)) → is_sorted incarnation_cmp (map keyed_cells fresh) ≡ true → AllPart incarnation_cmp (map key_of olds) places (map key_of fresh) → mid ≡ inserted (map keyed_cells olds) places (map keyed_cells fresh) → news ≡ with_changes cells_after mid (map (moving (moved_to places)) updates) → news ≡ weave (on_keys incarnation_cmp) (with_changes cells_after (map keyed_cells olds) updates) (map keyed_cells fresh)
changed_woven olds fresh places updates mid news rising parts put changed =
    let keys : AllPart incarnation_cmp (map (λ e. e.0) (map keyed_cells olds)) places (map (λ e. e.0) (map keyed_cells fresh)) =
    subst (λ (l : List IncarnationKey). AllPart incarnation_cmp l places (map (λ e. e.0) (map keyed_cells fresh))) (sym (keys_of_incarnations olds))
    (subst (λ (l : List IncarnationKey). AllPart incarnation_cmp (map key_of olds) places l) (sym (keys_of_incarnations fresh)) parts) in
    changed
    ∙ ap (λ (es : List (IncarnationKey × Cells)). with_changes cells_after es (map (moving (moved_to places)) updates)) put
    ∙ all_changes_moved cells_after incarnation_cmp (map keyed_cells olds) places (map keyed_cells fresh) updates keys
    ∙ all_woven incarnation_cmp incarnation_total (λ (e : IncarnationKey × Cells). e) (with_changes cells_after (map keyed_cells olds) updates) places (map keyed_cells fresh)
    (subst (λ (l : List (IncarnationKey × Cells)). T (is_sorted incarnation_cmp l)) (sym (map_itself (map keyed_cells fresh))) (as_T rising))
    (subst (λ (l : List IncarnationKey). AllPart incarnation_cmp l places (map (λ e. e.0) (map keyed_cells fresh))) (sym (keys-with_changes incarnation_total cells_after (map keyed_cells olds) updates)) keys)

pub in_order-requires : goal.in_order-requires
in_order-requires c = subst (λ (ks : List IncarnationKey). IsDistinct (eq_by_cmp incarnation_cmp) ks) (keys_of_incarnations c.in_ok-updates.field-0.fresh.items) c.in_ok-updates.ensures.brings.apart

pub returns-clause-grows : goal.returns-clause-grows
returns-clause-grows c =
    let olds = c.args.incarnations.now.items in
    let theirs = c.args.theirs.now.items in
    let news = c.put_incarnations-after.new.incarnations.items in
    let fresh = c.in_ok-fresh.fresh.items in
    let places = c.in_ok-places.places.items in
    let draft = c.in_ok-updates.field-0 in
    let drafts : MergeDrafts olds theirs draft.updates.items draft.fresh.items draft.more draft.changed = c.in_ok-updates.ensures in
    let puts : PutsAll c.args.number olds c.put_new.new.incarnations.items places fresh = subst (λ (ps : List IncarnationState). PutsAll c.args.number ps c.put_new.new.incarnations.items places fresh) c.reserve_incarnations.ensures.items c.in_ok-places.ensures.ok in
    let changed : map keyed_cells news ≡ with_changes cells_after (map keyed_cells c.put_new.new.incarnations.items) (map (moving (moved_to places)) draft.updates.items) = c.put_incarnations-after.ensures.changes ∙ ap (λ (l : List ℕ). with_changes cells_after (map keyed_cells c.put_new.new.incarnations.items) (map (moving (moved_to l)) draft.updates.items)) c.as_slice-2.ensures.value in
    let is = changed_woven olds fresh places draft.updates.items (map keyed_cells c.put_new.new.incarnations.items) (map keyed_cells news) c.in_ok-fresh.ensures.sorted puts.parts puts.put changed in
    let merges = incarnations_merged olds theirs c.requires.whole.sorted c.requires.whole.filled draft.updates.items draft.fresh.items fresh draft.more draft.changed drafts c.in_ok-fresh.ensures.sorted c.in_ok-fresh.ensures.same (all_moved has_cells draft.fresh.items fresh c.in_ok-fresh.ensures.moved drafts.filled) c.requires.few news is in
    let bounded : c.args.len + draft.more ≤ 2 ^ 62 = grind (arith, common_steps) in
    let few : conflicts_of news ≤ 2 ^ 62 = whole_few news (c.args.len + draft.more) (merged_whole olds news theirs c.args.len c.requires.whole c.requires.theirs_sorted draft.more draft.changed merges bounded) in
    let told = c.put_incarnations-after.ensures.conflicts in
    let before : c.args.conflicts ≡ conflicts_of olds = c.requires.counted in
    let after : c.put_incarnations-after.result ≡ conflicts_of news = omega (arith, told, few) in
    merged_grown olds news theirs c.args.len c.requires.whole c.requires.theirs_sorted draft.more draft.changed merges c.args.conflicts c.put_incarnations-after.result bounded (record { all = omega (arith, before, after); among = omega (arith, before) })

-- where nothing is changed bounds stay
still_covered : (olds news : List IncarnationState) (before after : List ℕ) → news ≡ olds → after ≡ before → AreCovered before olds → AreCovered after news
still_covered olds news before after items bounds covered = subst (λ (b : List ℕ). AreCovered b news) (sym bounds) (subst (λ (ps : List IncarnationState). AreCovered before ps) (sym items) covered)

pub returns-clause-covered : goal.returns-clause-covered
returns-clause-covered c = λ covered. c.put_incarnations-after.ensures.covered (c.put_new.ensures.covered (still_covered _ _ _ _ c.reserve_incarnations.ensures.items c.reserve_incarnations.ensures.bounds covered))

pub returns-in_err-places-clause-covered : goal.returns-in_err-places-clause-covered
returns-in_err-places-clause-covered c = λ covered. c.put_new.ensures.covered (still_covered _ _ _ _ c.reserve_incarnations.ensures.items c.reserve_incarnations.ensures.bounds covered)

pub returns-in_err-reserve_incarnations-clause-covered : goal.returns-in_err-reserve_incarnations-clause-covered
returns-in_err-reserve_incarnations-clause-covered c = λ covered. still_covered _ _ _ _ c.reserve_incarnations.ensures.items c.reserve_incarnations.ensures.bounds covered
