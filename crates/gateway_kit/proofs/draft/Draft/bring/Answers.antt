use Rattle.std.proofs.Common.{map, Ok, Err, subst, ap, sym, option_copied}
use Rattle.point_kit.specs.declared.cell.Cell.{Cell}
use Rattle.point_kit.specs.declared.payload.Payload.{Payload}
use Rattle.gateway_kit.specs.Changing.{IsUpdate, held_as}
use Rattle.gateway_kit.specs.Keys.{keyed_cell_of, item_cmp}
use Rattle.gateway_kit.specs.Places.{IsPlace}
use Rattle.gateway_kit.specs.declared.part_item.PartItem.{PartItem}
use Rattle.gateway_kit.proofs.Drafting.{drafts_kept, drafts_changed, drafts_fresh, found_place}
use Rattle.gateway_kit.proofs.Entries.{as_T}
use Rattle.gateway_kit.specs.KeyOrders.{item_total}
use Rattle.gateway_kit.proofs.draft.Draft.bring.Goals as goal

pub returns-in_ok-push-in-Ok : goal.returns-in_ok-push-in-Ok
returns-in_ok-push-in-Ok c =
    let placed : IsPlace item_cmp (map keyed_cell_of c.args.items.now) (c.args.stream.now, c.args.attrs.now) (Ok c.in-Ok.place) = rw c.in-Ok.is at c.requires.placed in
    let cell : Cell Payload = record { time = c.args.time; held = held_as (option_copied c.args.payload) } in
    let told : IsUpdate c.index-items-place.result.cell cell c.in_ok-cell-in-Ok.field-0 = subst (λ (m : Cell Payload). IsUpdate m cell c.in_ok-cell-in-Ok.field-0) (ap (λ (x : PartItem). x.cell) (sym c.index-items-place.is)) c.in_ok-cell-in-Ok.ensures in
    let update = rw c.in-Some.is at told in
    λ came first so_far.
    let there = found_place keyed_cell_of item_total c.args.items.now c.in-Ok.place c.index-items-place.result (c.args.stream.now, c.args.attrs.now) (as_T c.requires.sorted) placed c.index-items-place.is in
    rw c.in_ok-push-in-Ok.ensures.items (drafts_changed (map keyed_cell_of c.args.items.now) came c.args.self.now.updates.items c.args.self.now.fresh.items so_far (c.args.stream.now, c.args.attrs.now) (record { time = c.args.time; held = held_as (option_copied c.args.payload) }) first (as_T c.requires.sorted) c.index-items-place.result.cell c.in-Ok.place c.in-Some.cell there placed update.0 update.1)

pub returns-in_default : goal.returns-in_default
returns-in_default c =
    let placed : IsPlace item_cmp (map keyed_cell_of c.args.items.now) (c.args.stream.now, c.args.attrs.now) (Ok c.in-Ok.place) = rw c.in-Ok.is at c.requires.placed in
    let cell : Cell Payload = record { time = c.args.time; held = held_as (option_copied c.args.payload) } in
    let told : IsUpdate c.index-items-place.result.cell cell c.in_ok-cell-in-Ok.field-0 = subst (λ (m : Cell Payload). IsUpdate m cell c.in_ok-cell-in-Ok.field-0) (ap (λ (x : PartItem). x.cell) (sym c.index-items-place.is)) c.in_ok-cell-in-Ok.ensures in
    λ came first so_far.
    let there = found_place keyed_cell_of item_total c.args.items.now c.in-Ok.place c.index-items-place.result (c.args.stream.now, c.args.attrs.now) (as_T c.requires.sorted) placed c.index-items-place.is in
    drafts_kept (map keyed_cell_of c.args.items.now) came c.args.self.now.updates.items c.args.self.now.fresh.items so_far (c.args.stream.now, c.args.attrs.now) (record { time = c.args.time; held = held_as (option_copied c.args.payload) }) first c.index-items-place.result.cell there (rw c.in_default.is at told)

pub returns-in_ok-push-in-Err : goal.returns-in_ok-push-in-Err
returns-in_ok-push-in-Err c =
    let placed : IsPlace item_cmp (map keyed_cell_of c.args.items.now) (c.args.stream.now, c.args.attrs.now) (Err c.in-Err.gap) = rw c.in-Err.is at c.requires.placed in
    λ came first so_far.
    rw c.in_ok-push-in-Err.ensures.items (drafts_fresh (map keyed_cell_of c.args.items.now) came c.args.self.now.updates.items c.args.self.now.fresh.items so_far (c.args.stream.now, c.args.attrs.now) (record { time = c.args.time; held = held_as (option_copied c.args.payload) }) first (record { stream = c.in_ok-try_copy-in-Err.field-0; attrs = c.in_ok-try_copy-in-Err-2.field-0; cell = record { time = c.args.time; held = c.in_ok-copy_held-in-Err.field-0 }; number = 0; hint = tt }) (λ i. ((c.in_ok-try_copy-in-Err.ensures.value i, c.in_ok-try_copy-in-Err-2.ensures.value i), record { time = c.args.time; held = c.in_ok-copy_held-in-Err.ensures i })) placed.none)
