use Rattle.std.proofs.Common.{◌≡◌, ◌∙◌, sym, ap, None, Some, Option, ℕ, position, slice_get, get_or}
use Rattle.std.proofs.lemmas.List.{get_or-map}
use Rattle.std.proofs.lemmas.Option.{slice_get-get_or}
use Rattle.attr_kit.proofs.Within.{within_later}
use Rattle.plan_kit.specs.declared.instrument.Instrument.{Instrument}
use Rattle.plan_kit.specs.Owners.{owner_of}
use Rattle.plan_kit.specs.Views.{is_bad_view}
use Rattle.plan_kit.proofs.Sharing.{of_owner, before_next}
use Rattle.plan_kit.proofs.misfit.misfit_at.Goals as goal
use Rattle.plan_kit.proofs.misfit.misfit_at.Goals.{then-owners-place+in_ok-view+in-None, else-owners-place}

pub loop-place-preserved : goal.loop-place-preserved
loop-place-preserved c =
    let is = c.args.instruments.now in
    let place = c.loop-place.place in
    let x : Instrument = c.index-instruments-place.result in
    let bad : Instrument → Option ℕ = λ i. position (is_bad_view i) c.args.views.now in
    let good : Instrument → Type 0 = λ i. bad i ≡ None in
    let inside = c.loop-place-test.true in
    let at : slice_get is place ≡ Some x = slice_get-get_or is place x inside ∙ ap (λ y. Some y) (sym c.index-instruments-place.is) in
    let owner : get_or c.args.owners.now place 0 ≡ owner_of is x = ap (λ l. get_or l place 0) c.requires.owners ∙ get_or-map (owner_of is) is place x 0 inside ∙ ap (owner_of is) (sym c.index-instruments-place.is) in
    let here : good x = elim c.if-owners-place.branch [
      | then-owners-place+in_ok-view+in-None w ↦ sym w.in_ok-view.ensures ∙ w.in-None.is
      | else-owners-place w ↦ of_owner good is place x at (λ e. w.if-owners-place.false (owner ∙ e)) c.loop-place.invariant.none
    ] in
    record {
      so = within_later bad is place x inside c.loop-place.invariant.so (ap bad (sym c.index-instruments-place.is) ∙ here);
      none = before_next good is place x at here c.loop-place.invariant.none;
    }
