use Rattle.std.proofs.Common.{◌≡◌, ◌+◌, ◌<◌, List, map, take, length, ap, sym, subst, ◌∙◌, arith}
use Rattle.std.proofs.lemmas.Grind.{common_steps}
use Rattle.std.proofs.lemmas.List.{take-map}
use Rattle.std.proofs.lemmas.Result.{IfOk-weaker}
use Rattle.std.specs.FinMap.{entries}
use Rattle.std.specs.List.{IsDistinct}
use Rattle.std.specs.Ordering.{eq_by_cmp}
use Rattle.gateway_kit.specs.Changing.{KeyedCell, Drafts, Prepares}
use Rattle.gateway_kit.specs.Keys.{ItemKey, keyed_cell_of, item_cmp}
use Rattle.gateway_kit.specs.declared.changes.Changes.{Changes}
use Rattle.gateway_kit.proofs.Entries.{as_T, none_before}
use Rattle.gateway_kit.proofs.ExportEntries.{mapped_more, keys_of_items}
use Rattle.gateway_kit.specs.KeyOrders.{item_total}
use Rattle.gateway_kit.proofs.Moved.{got_map}
use Rattle.gateway_kit.proofs.incarnation.Incarnation.changes_with.Goals as goal

pub loop-item-init : goal.loop-item-init
loop-item-init c = c.new-draft.ensures (entries c.args.self.now.cells)

pub loop-item-preserved : goal.loop-item-preserved
loop-item-preserved c =
    let xs = c.items-item-items.result.now in
    let i = c.loop-item.item-index in
    let x = c.item-item.result in
    let within : i < length xs = grind (arith, common_steps) in
    let theirs : map keyed_cell_of xs ≡ entries c.args.other.now.cells = c.items-item-items.ensures.entries in
    let so_far : Drafts (map keyed_cell_of c.items-items.result.now) (take i (map keyed_cell_of xs)) c.loop-item.draft.updates.items c.loop-item.draft.fresh.items = rw (c.items-items.ensures.entries, theirs) c.loop-item.invariant in
    let stepped = c.in_ok-bring.ensures (take i (map keyed_cell_of xs)) (none_before item_total (map keyed_cell_of xs) i (keyed_cell_of x) (as_T c.items-item-items.ensures.sorted) (got_map keyed_cell_of xs i x within c.item-item.is)) so_far in
    subst (λ (es : List KeyedCell). Drafts es (take (i + 1) (entries c.args.other.now.cells)) c.bring.new.self.updates.items c.bring.new.self.fresh.items) c.items-items.ensures.entries
    (subst (λ (es : List KeyedCell). Drafts (map keyed_cell_of c.items-items.result.now) (take (i + 1) es) c.bring.new.self.updates.items c.bring.new.self.fresh.items) theirs
    (subst (λ (came : List KeyedCell). Drafts (map keyed_cell_of c.items-items.result.now) came c.bring.new.self.updates.items c.bring.new.self.fresh.items) (sym (mapped_more keyed_cell_of xs i x within c.item-item.is))
    (rw c.payload_of.ensures at stepped)))

pub finish-requires : goal.finish-requires
finish-requires c = subst (λ (ks : List ItemKey). IsDistinct (eq_by_cmp item_cmp) ks) (keys_of_items c.loop-item.draft.fresh.items) c.loop-item.invariant.brings.apart

pub returns : goal.returns
returns c =
    let es : map keyed_cell_of c.items-items.result.now ≡ entries c.args.self.now.cells = c.items-items.ensures.entries in
    let xs = c.items-item-items.result.now in
    let all : take c.loop-item.item-index xs ≡ xs = grind (arith, common_steps) in
    let whole : take c.loop-item.item-index (entries c.args.other.now.cells) ≡ entries c.args.other.now.cells = ap (take c.loop-item.item-index) (sym c.items-item-items.ensures.entries) ∙ take-map keyed_cell_of c.loop-item.item-index xs ∙ ap (map keyed_cell_of) all ∙ c.items-item-items.ensures.entries in
    IfOk-weaker c.finish.result _ (λ (h : Changes). Prepares (entries c.args.self.now.cells) (entries c.args.other.now.cells) h) (λ h told. rw (← es) (told (entries c.args.other.now.cells) c.items-items.ensures.sorted (rw (es, ← whole) c.loop-item.invariant))) c.finish.ensures
