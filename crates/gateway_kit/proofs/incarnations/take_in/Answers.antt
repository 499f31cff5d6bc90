use Rattle.std.proofs.Common.{◌≡◌, List, [], ◌∷◌, Ok, Err, map, get_or, sym, ap, subst, ◌∙◌, arith}
use Rattle.std.proofs.lemmas.List.{length-map}
use Rattle.std.specs.Prelude.{slice_set, IfOk, OnOk}
use Rattle.std.specs.FinMap.{entries}
use Rattle.std.specs.List.{insert}
use Rattle.point_kit.specs.Exports.{state}
use Rattle.gateway_kit.specs.Changing.{KeyedCell, keyed_cells_of}
use Rattle.gateway_kit.specs.Covering.{AreCovered}
use Rattle.gateway_kit.specs.Growth.{GrowsBy}
use Rattle.gateway_kit.specs.Numbers.{IncarnationsMove}
use Rattle.gateway_kit.specs.Incarnations.{keyed_cells}
use Rattle.gateway_kit.specs.IncarnationState.{Cells, IncarnationState}
use Rattle.gateway_kit.specs.Keys.{incarnation_cmp}
use Rattle.gateway_kit.specs.Places.{IsPlace}
use Rattle.gateway_kit.specs.Tallies.{Tells, conflicts_in}
use Rattle.gateway_kit.proofs.Covered.{first_up, insert_covered, raised_covered, taken_covered}
use Rattle.gateway_kit.proofs.AllMoves.{first_moves, gap_moves, held_moves}
use Rattle.gateway_kit.proofs.Growing.{entries-empty, export_entry, gap_grows, held_grows, within_at}
use Rattle.gateway_kit.proofs.Joining.{apart_entries, held_grown, one_grown, state_alone}
use Rattle.gateway_kit.proofs.Tallies.{held_tells, tells_insert}
use Rattle.gateway_kit.proofs.incarnations.take_in.Goals as goal

pub returns-in-Ok-clause-grows : goal.returns-in-Ok-clause-grows
returns-in-Ok-clause-grows c =
    let e = c.args.export.now in
    let olds = c.args.incarnations.now.items in
    let p = c.get_mut.result.now in
    let lent : p ≡ get_or olds c.in-Ok.place p = c.get_mut.ensures.value ∙ ap (λ (ps : List IncarnationState). get_or ps c.in-Ok.place p) c.raise.ensures.items in
    let placed : IsPlace incarnation_cmp (map keyed_cells olds) (e.writer, e.start) (Ok c.in-Ok.place) = rw (c.writer.ensures.value, c.start.ensures.value, c.in-Ok.is) at c.incarnation_place.ensures in
    subst (λ (ps : List IncarnationState). IfOk c.take.result (λ g. GrowsBy olds (slice_set ps c.in-Ok.place c.take.new.self) c.args.len (state (e ∷ [])) g)) (sym c.raise.ensures.items)
    (held_grown olds (slice_set olds c.in-Ok.place c.take.new.self) c.args.len c.requires.whole (e.writer, e.start) (keyed_cells_of e) (apart_entries e) (state (e ∷ [])) (state_alone e) c.take.result
    (held_grows olds c.args.len c.requires.whole (e.writer, e.start) (keyed_cells_of e) (export_entry e c.requires.points) c.in-Ok.place p c.take.new.self placed lent c.take.result c.take.ensures.joins c.take.ensures.same)
    c.take.ensures.bounded
    (held_tells olds c.in-Ok.place p c.take.new.self (within_at keyed_cells olds c.in-Ok.place (e.writer, e.start) placed) lent c.take.result c.take.ensures.before c.take.ensures.after))

pub returns-in-Ok-clause-moves : goal.returns-in-Ok-clause-moves
returns-in-Ok-clause-moves c =
    let olds = c.args.incarnations.now.items in
    let p = c.get_mut.result.now in
    let lent : p ≡ get_or olds c.in-Ok.place p = c.get_mut.ensures.value ∙ ap (λ (ps : List IncarnationState). get_or ps c.in-Ok.place p) c.raise.ensures.items in
    subst (λ (ps : List IncarnationState). OnOk c.take.result (IncarnationsMove c.args.number olds (slice_set ps c.in-Ok.place c.take.new.self))) (sym c.raise.ensures.items)
    (held_moves c.args.number olds c.in-Ok.place p c.take.new.self lent c.take.result c.take.ensures.same c.take.ensures.moves)

pub returns-in_ok-insert-in-Err-clause-grows : goal.returns-in_ok-insert-in-Err-clause-grows
returns-in_ok-insert-in-Err-clause-grows c =
    let e = c.args.export.now in
    let olds = c.args.incarnations.now.items in
    let new : IncarnationState = c.take-in-Err.new.self in
    let news = insert olds c.in-Err.place new in
    let growth = c.in_ok-growth-in-Err.growth in
    let placed : IsPlace incarnation_cmp (map keyed_cells olds) (e.writer, e.start) (Err c.in-Err.place) = rw (c.writer.ensures.value, c.start.ensures.value, c.in-Err.is) at c.incarnation_place.ensures in
    let key : (keyed_cells new).0 ≡ (e.writer, e.start) = c.in_ok-growth-in-Err.ensures.same ∙ (λ j. ((c.new-incarnation.ensures.writer ∙ c.in_ok-writer-in-Err.ensures.value ∙ c.writer-in-Err.ensures.value) j, (c.new-incarnation.ensures.start ∙ c.start-in-Err.ensures.value) j)) in
    let none : growth.before ≡ 0 = c.in_ok-growth-in-Err.ensures.before ∙ ap (λ (cs : Cells). conflicts_in (entries cs)) c.new-incarnation.ensures.cells ∙ ap (λ (es : List KeyedCell). conflicts_in es) entries-empty in
    rw c.in_ok-insert-in-Err.ensures.ok (one_grown olds news c.args.len c.requires.whole (e.writer, e.start) (keyed_cells_of e) (apart_entries e) (state (e ∷ [])) (state_alone e) growth
    (gap_grows olds c.args.len c.requires.whole (e.writer, e.start) (keyed_cells_of e) (export_entry e c.requires.points) c.in-Err.place c.new-incarnation.result new growth.more growth.changed placed c.new-incarnation.ensures.cells key c.in_ok-growth-in-Err.ensures.joins)
    c.in_ok-growth-in-Err.ensures.bounded
    (subst (λ n. Tells olds news n growth.after) (sym none) (tells_insert olds c.in-Err.place new growth.after c.in_ok-growth-in-Err.ensures.after)))

pub returns-in_ok-insert-in-Err-clause-moves : goal.returns-in_ok-insert-in-Err-clause-moves
returns-in_ok-insert-in-Err-clause-moves c =
    let e = c.args.export.now in
    let olds = c.args.incarnations.now.items in
    let new : IncarnationState = c.take-in-Err.new.self in
    let placed : IsPlace incarnation_cmp (map keyed_cells olds) (e.writer, e.start) (Err c.in-Err.place) = rw (c.writer.ensures.value, c.start.ensures.value, c.in-Err.is) at c.incarnation_place.ensures in
    let key : (keyed_cells new).0 ≡ (e.writer, e.start) = c.in_ok-growth-in-Err.ensures.same ∙ (λ j. ((c.new-incarnation.ensures.writer ∙ c.in_ok-writer-in-Err.ensures.value ∙ c.writer-in-Err.ensures.value) j, (c.new-incarnation.ensures.start ∙ c.start-in-Err.ensures.value) j)) in
    rw c.in_ok-insert-in-Err.ensures.ok (gap_moves c.args.number olds c.in-Err.place new (e.writer, e.start) key placed.none
    (first_moves c.args.number c.new-incarnation.result new c.new-incarnation.ensures.cells c.new-incarnation.ensures.numbers c.in_ok-growth-in-Err.ensures.moves))

pub returns-in-Ok-clause-covered : goal.returns-in-Ok-clause-covered
returns-in-Ok-clause-covered c = λ covered.
    let e = c.args.export.now in
    let olds = c.args.incarnations.now.items in
    let p = c.get_mut.result.now in
    let lent : p ≡ get_or olds c.in-Ok.place p = c.get_mut.ensures.value ∙ ap (λ (ps : List IncarnationState). get_or ps c.in-Ok.place p) c.raise.ensures.items in
    let placed : IsPlace incarnation_cmp (map keyed_cells olds) (e.writer, e.start) (Ok c.in-Ok.place) = rw (c.writer.ensures.value, c.start.ensures.value, c.in-Ok.is) at c.incarnation_place.ensures in
    let bounds = c.raise.new.self.bounds in
    subst (λ (ps : List IncarnationState). AreCovered bounds (slice_set ps c.in-Ok.place c.take.new.self)) (sym c.raise.ensures.items)
    (taken_covered c.take.result bounds olds c.in-Ok.place c.args.number p c.take.new.self (within_at keyed_cells olds c.in-Ok.place (e.writer, e.start) placed) lent c.raise.ensures.here c.take.ensures.moves c.take.ensures.unchanged
    (raised_covered c.args.incarnations.now.bounds bounds olds c.raise.ensures.kept covered))

pub returns-in_ok-insert-in-Err-clause-covered : goal.returns-in_ok-insert-in-Err-clause-covered
returns-in_ok-insert-in-Err-clause-covered c = λ covered.
    let e = c.args.export.now in
    let olds = c.args.incarnations.now.items in
    let new : IncarnationState = c.take-in-Err.new.self in
    let placed : IsPlace incarnation_cmp (map keyed_cells olds) (e.writer, e.start) (Err c.in-Err.place) = rw (c.writer.ensures.value, c.start.ensures.value, c.in-Err.is) at c.incarnation_place.ensures in
    let long = length-map olds keyed_cells in
    let gap = placed.within in
    let up = first_up c.args.number new (first_moves c.args.number c.new-incarnation.result new c.new-incarnation.ensures.cells c.new-incarnation.ensures.numbers c.in_ok-growth-in-Err.ensures.moves) in
    subst (λ (ps : List IncarnationState). AreCovered c.insert.new.self.bounds ps) (sym c.in_ok-insert-in-Err.ensures.ok)
    (insert_covered c.args.incarnations.now.bounds c.insert.new.self.bounds olds c.in-Err.place c.args.number new c.in_ok-insert-in-Err.ensures.bounds c.bounds_match.ensures (omega (arith, gap, long)) up covered)
