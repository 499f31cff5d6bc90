use Rattle.std.proofs.Common.{◌≡◌, ◌<◌, true, false, cond, map, length, sym, ap, ◌∙◌, rules}
use Rattle.std.specs.Prelude.{slice_set}
use Rattle.gateway_kit.specs.Changing.{replacement}
use Rattle.gateway_kit.specs.Keys.{keyed_cell_of}
use Rattle.gateway_kit.proofs.Bounded.{put_bounded}
use Rattle.gateway_kit.proofs.Moved.{kept_with_change, past_with_change}
use Rattle.gateway_kit.proofs.Tallies.{put_under, written_conflicts}
use Rattle.gateway_kit.specs.Numbers.{number_after}
use Rattle.gateway_kit.specs.Tallies.{conflicts_in, rank}
use Rattle.gateway_kit.specs.Times.{latest}
use Rattle.gateway_kit.specs.declared.part_item.PartItem.{PartItem}
use Rattle.gateway_kit.proofs.ItemMoves.{items_stay, put_moves, put_up_to}
use Rattle.gateway_kit.proofs.Times.{less_of, written, written_latest}
use Rattle.gateway_kit.proofs.items.put_cell.Goals as goal

pub returns-then-place-len-clause-put : goal.returns-then-place-len-clause-put
returns-then-place-len-clause-put c = past_with_change keyed_cell_of replacement c.args.items.now.items c.args.place c.args.cell (search rules)

pub returns-then-not-is_further-clause-put : goal.returns-then-not-is_further-clause-put
returns-then-not-is_further-clause-put c =
    let there = c.index.result.now in
    kept_with_change keyed_cell_of replacement c.args.items.now.items c.args.place there c.args.cell (search rules) c.index.ensures
    (let no : c.is_further.result ≡ false = search rules in ap (λ b. cond b c.args.cell there.cell) (sym c.is_further.ensures ∙ no))

pub returns-then-not-is_further-clause-moves : goal.returns-then-not-is_further-clause-moves
returns-then-not-is_further-clause-moves c = items_stay c.args.number c.args.items.now.items

pub returns-then-place-len-clause-moves : goal.returns-then-place-len-clause-moves
returns-then-place-len-clause-moves c = items_stay c.args.number c.args.items.now.items

pub overflow_sub-tally : goal.overflow_sub-tally
overflow_sub-tally c =
    let within : c.args.place < length c.args.items.now.items = search rules in
    let yes : c.is_further.result ≡ true = search rules in
    let up : rank c.index.result.now.cell < rank c.args.cell = less_of _ _ (sym c.is_further.ensures ∙ yes) in
    put_under c.args.items.now.items c.args.place c.index.result.now c.args.cell within c.index.ensures up c.args.tally.conflicts c.conflict_of.result c.conflict_of-2.result c.requires.conflicts c.conflict_of.ensures c.conflict_of-2.ensures

pub returns-clause-put : goal.returns-clause-put
returns-clause-put c =
    let items = c.args.items.now.items in
    let within : c.args.place < length items = search rules in
    let yes : c.is_further.result ≡ true = search rules in
    let up : rank c.index.result.now.cell < rank c.args.cell = less_of _ _ (sym c.is_further.ensures ∙ yes) in
    let y = c.index_mut.result.now in
    ap (λ (p : PartItem). map keyed_cell_of (slice_set items c.args.place p)) c.put.ensures ∙ written items c.args.place c.index.result.now y c.args.cell within c.index.ensures c.index_mut.ensures.value up (number_after c.args.number y.number)

pub returns-clause-tally : goal.returns-clause-tally
returns-clause-tally c =
    let items = c.args.items.now.items in
    let within : c.args.place < length items = search rules in
    let yes : c.is_further.result ≡ true = search rules in
    let up : rank c.index.result.now.cell < rank c.args.cell = less_of _ _ (sym c.is_further.ensures ∙ yes) in
    let y = c.index_mut.result.now in
    record {
      newest = written_latest items c.args.place c.index.result.now y c.args.cell within c.index.ensures c.index_mut.ensures.value up (number_after c.args.number y.number) c.args.tally.newest c.max.result c.max.ensures c.requires.newest
          ∙ ap (λ (p : PartItem). latest (map keyed_cell_of (slice_set items c.args.place p))) (sym c.put.ensures);
      conflicts = written_conflicts items c.args.place c.index.result.now y c.args.cell within c.index.ensures c.index_mut.ensures.value up (number_after c.args.number y.number) c.args.tally.conflicts c.conflict_of.result c.conflict_of-2.result c.requires.conflicts c.conflict_of.ensures c.conflict_of-2.ensures
          ∙ ap (λ (p : PartItem). conflicts_in (map keyed_cell_of (slice_set items c.args.place p))) (sym c.put.ensures);
    }

pub returns-clause-moves : goal.returns-clause-moves
returns-clause-moves c =
    let items = c.args.items.now.items in
    let within : c.args.place < length items = search rules in
    let yes : c.is_further.result ≡ true = search rules in
    let up : rank c.index.result.now.cell < rank c.args.cell = less_of _ _ (sym c.is_further.ensures ∙ yes) in
    put_moves c.args.number items c.args.place c.index.result.now c.index_mut.result.now c.put.new.self c.args.cell within c.index.ensures c.index_mut.ensures.value up c.put.ensures

pub returns-clause-up_to : goal.returns-clause-up_to
returns-clause-up_to c =
    let within : c.args.place < length c.args.items.now.items = search rules in
    put_up_to c.args.number c.args.items.now.items c.args.place c.index_mut.result.now c.put.new.self c.args.cell within c.index_mut.ensures.value c.put.ensures

pub returns-clause-bounded : goal.returns-clause-bounded
returns-clause-bounded c =
    let within : c.args.place < length c.args.items.now.items = search rules in
    let told = ap (λ (i : PartItem). i.number) c.put.ensures in
    put_bounded c.args.bounds.now c.raise.new.self c.args.items.now.items c.args.place c.args.number c.index_mut.result.now c.put.new.self within c.index_mut.ensures.value told c.raise.ensures.kept c.raise.ensures.here
