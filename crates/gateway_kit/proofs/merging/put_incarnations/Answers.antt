use Rattle.std.proofs.Common.{ℕ, [], ◌∷◌, map, refl, ap, sym, ◌∙◌, arith}
use Rattle.std.proofs.lemmas.List.{length-map, map-append}
use Rattle.gateway_kit.specs.Amending.{with_change, with_changes}
use Rattle.gateway_kit.specs.Inserting.{moved_to, moving}
use Rattle.gateway_kit.specs.Merging.{cells_after}
use Rattle.gateway_kit.specs.Incarnations.{keyed_cells}
use Rattle.gateway_kit.specs.KeyOrders.{incarnation_total}
use Rattle.gateway_kit.proofs.AllMoves.{incarnations_stay, incarnations_then}
use Rattle.gateway_kit.proofs.Entries.{with_changes-push}
use Rattle.gateway_kit.proofs.Inserted.{change_capped}
use Rattle.gateway_kit.proofs.merging.put_incarnations.Goals as goal

pub loop-place-init : goal.loop-place-init
loop-place-init c = record { cells = refl; conflicts = c.requires.counted; covered = λ covered. covered; moves = incarnations_stay c.args.number c.args.incarnations.now.items }

pub loop-place-preserved : goal.loop-place-preserved
loop-place-preserved c =
    let olds = map keyed_cells c.args.incarnations.now.items in
    let here = map keyed_cells c.loop-place.incarnations.items in
    let ps = c.args.places.now in
    let changes = c.in-Some.changes in
    let to : ℕ = moved_to ps c.in-Some.place in
    let few = c.put_incarnation-conflicts.ensures.few in
    let same = length-map c.loop-place.incarnations.items keyed_cells in
    record {
      cells =
          c.put_incarnation-conflicts.ensures.change
          ∙ ap (λ (i : ℕ). with_change cells_after here i changes) c.place_after-place.ensures
          ∙ change_capped cells_after here to changes (omega (arith, few, same))
          ∙ ap (λ es. with_change cells_after es to changes) c.loop-place.invariant.cells
          ∙ sym (with_changes-push incarnation_total cells_after olds (map (moving (moved_to ps)) c.loop-place.yielded) to changes)
          ∙ ap (with_changes cells_after olds) (sym (map-append (moving (moved_to ps)) c.loop-place.yielded ((c.in-Some.place, changes) ∷ [])));
      conflicts = c.put_incarnation-conflicts.ensures.conflicts;
      covered = λ covered. c.put_incarnation-conflicts.ensures.covered (c.loop-place.invariant.covered covered);
      moves = incarnations_then c.args.number c.args.incarnations.now.items c.loop-place.incarnations.items c.put_incarnation-conflicts.new.incarnations.items c.loop-place.invariant.moves c.put_incarnation-conflicts.ensures.moves;
    }
