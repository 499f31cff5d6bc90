use Rattle.std.proofs.Common.{◌≡◌, List, [], ◌∷◌, Ok, Err, map, is_some, sym, ap, subst, ◌∙◌, arith}
use Rattle.std.proofs.lemmas.List.{length-map}
use Rattle.std.specs.Prelude.{slice_set}
use Rattle.std.specs.FinMap.{entries, from_entries, get-from_entries}
use Rattle.std.specs.List.{insert}
use Rattle.point_kit.proofs.OrderLaws.{key_total}
use Rattle.std.specs.FinMap.Entries.{find}
use Rattle.gateway_kit.specs.Changing.{KeyedCell}
use Rattle.gateway_kit.specs.Covering.{AreCovered}
use Rattle.gateway_kit.specs.Growth.{cells_at}
use Rattle.gateway_kit.specs.Incarnations.{entries_at, keyed_cells}
use Rattle.gateway_kit.specs.IncarnationState.{Cells, IncarnationState}
use Rattle.gateway_kit.specs.KeyOrders.{incarnation_total}
use Rattle.gateway_kit.specs.Keys.{IncarnationKey, ItemKey, incarnation_cmp, item_cmp}
use Rattle.gateway_kit.specs.Places.{IsPlace}
use Rattle.gateway_kit.specs.Tallies.{Tells, conflicts_in}
use Rattle.gateway_kit.proofs.Covered.{first_up, insert_covered, taken_covered}
use Rattle.gateway_kit.proofs.AllMoves.{first_moves, gap_moves, held_moves}
use Rattle.gateway_kit.proofs.Drafting.{found_place}
use Rattle.gateway_kit.proofs.Entries.{as_T}
use Rattle.gateway_kit.proofs.Growing.{entries-empty, gap_grows, held_grows, lone_entry, within_at}
use Rattle.gateway_kit.proofs.Joining.{held_grown, one_grown}
use Rattle.gateway_kit.proofs.OneCell.{apart_alone}
use Rattle.gateway_kit.proofs.Tallies.{held_tells, tells_insert}
use Rattle.gateway_kit.proofs.incarnations.join_in.Goals as goal

pub returns-in-Ok-clause-grows : goal.returns-in-Ok-clause-grows
returns-in-Ok-clause-grows c =
    let key = c.args.key in
    let a : IncarnationKey = (key.writer, key.start) in
    let k : ItemKey = (key.stream, key.attrs) in
    let came = (k, c.args.cell) ∷ [] in
    let olds = c.args.incarnations.now.items in
    let placed : IsPlace incarnation_cmp (map keyed_cells olds) a (Ok c.in-Ok.place) = rw c.in-Ok.is at c.incarnation_place.ensures in
    held_grown olds (slice_set olds c.in-Ok.place c.join.new.self) c.args.len c.requires.whole a came (apart_alone k c.args.cell) (from_entries ((key, c.args.cell) ∷ [])) (λ q. get-from_entries key_total ((key, c.args.cell) ∷ []) q) c.join.result
    (held_grows olds c.args.len c.requires.whole a came (lone_entry k c.args.cell) c.in-Ok.place c.get_mut.result.now c.join.new.self placed c.get_mut.ensures.value c.join.result c.join.ensures.joins c.join.ensures.same)
    c.join.ensures.bounded
    (held_tells olds c.in-Ok.place c.get_mut.result.now c.join.new.self (within_at keyed_cells olds c.in-Ok.place a placed) c.get_mut.ensures.value c.join.result c.join.ensures.before c.join.ensures.after)

pub returns-in-Ok-clause-held : goal.returns-in-Ok-clause-held
returns-in-Ok-clause-held c = λ some.
    let key = c.args.key in
    let olds = c.args.incarnations.now.items in
    let incarnation = c.get_mut.result.now in
    let placed : IsPlace incarnation_cmp (map keyed_cells olds) (key.writer, key.start) (Ok c.in-Ok.place) = rw c.in-Ok.is at c.incarnation_place.ensures in
    let here : cells_at (key.writer, key.start) olds ≡ entries incarnation.cells = ap entries_at (found_place keyed_cells incarnation_total olds c.in-Ok.place incarnation (key.writer, key.start) (as_T c.requires.whole.sorted) placed c.get_mut.ensures.value) in
    c.join.ensures.held (ap (λ es. is_some (find item_cmp (key.stream, key.attrs) es)) (sym here) ∙ some)

pub returns-in-Ok-clause-moves : goal.returns-in-Ok-clause-moves
returns-in-Ok-clause-moves c = held_moves 0 c.args.incarnations.now.items c.in-Ok.place c.get_mut.result.now c.join.new.self c.get_mut.ensures.value c.join.result c.join.ensures.same c.join.ensures.moves

pub returns-in_ok-insert-in-Err-clause-grows : goal.returns-in_ok-insert-in-Err-clause-grows
returns-in_ok-insert-in-Err-clause-grows c =
    let key = c.args.key in
    let a : IncarnationKey = (key.writer, key.start) in
    let k : ItemKey = (key.stream, key.attrs) in
    let came = (k, c.args.cell) ∷ [] in
    let olds = c.args.incarnations.now.items in
    let new : IncarnationState = c.join-in-Err.new.self in
    let news = insert olds c.in-Err.place new in
    let growth = c.in_ok-growth-in-Err.growth in
    let placed : IsPlace incarnation_cmp (map keyed_cells olds) a (Err c.in-Err.place) = rw c.in-Err.is at c.incarnation_place.ensures in
    let none : growth.before ≡ 0 = c.in_ok-growth-in-Err.ensures.before ∙ ap (λ (cs : Cells). conflicts_in (entries cs)) c.new-incarnation.ensures.cells ∙ ap (λ (es : List KeyedCell). conflicts_in es) entries-empty in
    rw c.in_ok-insert-in-Err.ensures.ok (one_grown olds news c.args.len c.requires.whole a came (apart_alone k c.args.cell) (from_entries ((key, c.args.cell) ∷ [])) (λ q. get-from_entries key_total ((key, c.args.cell) ∷ []) q) growth
    (gap_grows olds c.args.len c.requires.whole a came (lone_entry k c.args.cell) c.in-Err.place c.new-incarnation.result new growth.more growth.changed placed c.new-incarnation.ensures.cells (c.in_ok-growth-in-Err.ensures.same ∙ (λ j. (c.new-incarnation.ensures.writer j, c.new-incarnation.ensures.start j))) c.in_ok-growth-in-Err.ensures.joins)
    c.in_ok-growth-in-Err.ensures.bounded
    (subst (λ n. Tells olds news n growth.after) (sym none) (tells_insert olds c.in-Err.place new growth.after c.in_ok-growth-in-Err.ensures.after)))

pub returns-in_ok-insert-in-Err-clause-moves : goal.returns-in_ok-insert-in-Err-clause-moves
returns-in_ok-insert-in-Err-clause-moves c =
    let key = c.args.key in
    let olds = c.args.incarnations.now.items in
    let new : IncarnationState = c.join-in-Err.new.self in
    let placed : IsPlace incarnation_cmp (map keyed_cells olds) (key.writer, key.start) (Err c.in-Err.place) = rw c.in-Err.is at c.incarnation_place.ensures in
    rw c.in_ok-insert-in-Err.ensures.ok (gap_moves 0 olds c.in-Err.place new (key.writer, key.start) (c.in_ok-growth-in-Err.ensures.same ∙ (λ j. (c.new-incarnation.ensures.writer j, c.new-incarnation.ensures.start j))) placed.none
    (first_moves 0 c.new-incarnation.result new c.new-incarnation.ensures.cells c.new-incarnation.ensures.numbers c.in_ok-growth-in-Err.ensures.moves))

pub returns-in-Ok-clause-covered : goal.returns-in-Ok-clause-covered
returns-in-Ok-clause-covered c =
    let key = c.args.key in
    let olds = c.args.incarnations.now.items in
    let placed : IsPlace incarnation_cmp (map keyed_cells olds) (key.writer, key.start) (Ok c.in-Ok.place) = rw c.in-Ok.is at c.incarnation_place.ensures in
    taken_covered c.join.result c.args.incarnations.now.bounds olds c.in-Ok.place 0 c.get_mut.result.now c.join.new.self (within_at keyed_cells olds c.in-Ok.place (key.writer, key.start) placed) c.get_mut.ensures.value (omega arith) c.join.ensures.moves c.join.ensures.unchanged

pub returns-in_ok-insert-in-Err-clause-covered : goal.returns-in_ok-insert-in-Err-clause-covered
returns-in_ok-insert-in-Err-clause-covered c = λ covered.
    let key = c.args.key in
    let olds = c.args.incarnations.now.items in
    let new : IncarnationState = c.join-in-Err.new.self in
    let placed : IsPlace incarnation_cmp (map keyed_cells olds) (key.writer, key.start) (Err c.in-Err.place) = rw c.in-Err.is at c.incarnation_place.ensures in
    let long = length-map olds keyed_cells in
    let gap = placed.within in
    let up = first_up 0 new (first_moves 0 c.new-incarnation.result new c.new-incarnation.ensures.cells c.new-incarnation.ensures.numbers c.in_ok-growth-in-Err.ensures.moves) in
    subst (λ (ps : List IncarnationState). AreCovered c.insert.new.self.bounds ps) (sym c.in_ok-insert-in-Err.ensures.ok)
    (insert_covered c.args.incarnations.now.bounds c.insert.new.self.bounds olds c.in-Err.place 0 new c.in_ok-insert-in-Err.ensures.bounds c.bounds_match.ensures (omega (arith, gap, long)) up covered)
