use Rattle.std.proofs.Common.{◌≡◌, ◌<◌, ◌%◌, ◌^◌, List, map, get_or, length, sym, ap, subst, ◌∙◌, rules, arith}
use Rattle.std.proofs.lemmas.Grind.{common_steps}
use Rattle.std.specs.Prelude.{slice_set}
use Rattle.gateway_kit.specs.Covering.{AreCovered}
use Rattle.gateway_kit.specs.Merging.{cells_after}
use Rattle.gateway_kit.specs.Incarnations.{keyed_cells}
use Rattle.gateway_kit.specs.Keys.{IncarnationKey}
use Rattle.gateway_kit.specs.IncarnationState.{Cells, IncarnationState}
use Rattle.gateway_kit.specs.Numbers.{IncarnationsMove}
use Rattle.gateway_kit.specs.Tallies.{conflicts_of}
use Rattle.gateway_kit.proofs.AllMoves.{incarnations_stay, set_moves}
use Rattle.gateway_kit.proofs.Covered.{moved_up, raised_covered, set_covered}
use Rattle.gateway_kit.proofs.Moved.{set_with_change, past_with_change}
use Rattle.gateway_kit.proofs.Tallies.{among_set}
use Rattle.gateway_kit.proofs.merging.put_incarnation.Goals as goal

pub returns-then-place-len-clause-change : goal.returns-then-place-len-clause-change
returns-then-place-len-clause-change c =
    let olds = c.args.incarnations.now.items in
    let p = c.get_mut.result.now in
    let within : c.args.place < length olds = grind (arith, common_steps) in
    let lent : p ≡ get_or olds c.args.place p = c.get_mut.ensures.value ∙ ap (λ (ps : List IncarnationState). get_or ps c.args.place p) c.raise.ensures.items in
    ap (λ (ps : List IncarnationState). map keyed_cells (slice_set ps c.args.place c.install_among.new.self)) c.raise.ensures.items
    ∙ set_with_change keyed_cells cells_after olds c.args.place p c.install_among.new.self c.args.changes within lent c.install_among.ensures.cells

pub returns-else-place-len-clause-change : goal.returns-else-place-len-clause-change
returns-else-place-len-clause-change c = past_with_change keyed_cells cells_after c.args.incarnations.now.items c.args.place c.args.changes (grind (arith, common_steps))

pub returns-then-place-len-clause-moves : goal.returns-then-place-len-clause-moves
returns-then-place-len-clause-moves c =
    let olds = c.args.incarnations.now.items in
    let p = c.get_mut.result.now in
    let lent : p ≡ get_or olds c.args.place p = c.get_mut.ensures.value ∙ ap (λ (ps : List IncarnationState). get_or ps c.args.place p) c.raise.ensures.items in
    subst (λ (ps : List IncarnationState). IncarnationsMove c.args.number olds (slice_set ps c.args.place c.install_among.new.self)) (sym c.raise.ensures.items)
    (set_moves c.args.number olds c.args.place p c.install_among.new.self lent (ap (λ (e : IncarnationKey × Cells). e.0) c.install_among.ensures.cells) c.install_among.ensures.moves)

pub returns-else-place-len-clause-moves : goal.returns-else-place-len-clause-moves
returns-else-place-len-clause-moves c = incarnations_stay c.args.number c.args.incarnations.now.items

pub returns-then-place-len-clause-conflicts : goal.returns-then-place-len-clause-conflicts
returns-then-place-len-clause-conflicts c =
    let olds = c.args.incarnations.now.items in
    let p = c.get_mut.result.now in
    let within : c.args.place < length olds = grind (arith, common_steps) in
    let lent : p ≡ get_or olds c.args.place p = c.get_mut.ensures.value ∙ ap (λ (ps : List IncarnationState). get_or ps c.args.place p) c.raise.ensures.items in
    subst (λ (ps : List IncarnationState). c.install_among.result ≡ conflicts_of (slice_set ps c.args.place c.install_among.new.self) % 2 ^ 64) (sym c.raise.ensures.items)
    (among_set olds c.args.place p c.install_among.new.self within lent c.args.conflicts c.install_among.result c.requires c.install_among.ensures.conflicts (search rules))

pub returns-then-place-len-clause-covered : goal.returns-then-place-len-clause-covered
returns-then-place-len-clause-covered c = λ covered.
    let olds = c.args.incarnations.now.items in
    let p = c.get_mut.result.now in
    let bounds = c.raise.new.self.bounds in
    let within : c.args.place < length olds = grind (arith, common_steps) in
    let lent : p ≡ get_or olds c.args.place p = c.get_mut.ensures.value ∙ ap (λ (ps : List IncarnationState). get_or ps c.args.place p) c.raise.ensures.items in
    subst (λ (ps : List IncarnationState). AreCovered bounds (slice_set ps c.args.place c.install_among.new.self)) (sym c.raise.ensures.items)
    (set_covered bounds olds c.args.place p c.install_among.new.self within lent (moved_up c.args.number (get_or bounds c.args.place 0) p c.install_among.new.self c.raise.ensures.here c.install_among.ensures.moves)
    (raised_covered c.args.incarnations.now.bounds bounds olds c.raise.ensures.kept covered))
