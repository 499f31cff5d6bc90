use Rattle.std.proofs.Common.{[], ◌∷◌, ◌++◌, List, map, sym, ap, ◌∙◌, append_assoc}
use Rattle.std.proofs.lemmas.List.{append-nil}
use Rattle.gateway_kit.specs.Listing.{HeldIncarnation, held_of_ref, incarnations_left}
use Rattle.kit_c.specs.Incarnations.{told_incarnation}
use Rattle.kit_c.specs.declared.incarnations.Incarnation.{Incarnation}
use Rattle.kit_c.proofs.incarnations.listed.Goals as goal

pub loop-told-preserved : goal.loop-told-preserved
loop-told-preserved c =
    let list : List Incarnation = c.loop-told.list.items in
    let left : List HeldIncarnation = incarnations_left c.next.new.self in (
      tt,
      tt,
      ap (λ (is : List Incarnation). is ++ map told_incarnation left) c.in_ok-push_copy.ensures
          ∙ append_assoc list (told_incarnation (held_of_ref c.in-Some.told) ∷ []) (map told_incarnation left)
          ∙ ap (λ (hs : List HeldIncarnation). list ++ map told_incarnation hs) (sym c.in-Some.ensures.steps)
          ∙ c.loop-told.invariant.2,
    )

pub returns : goal.returns
returns c =
    c.from_vec.ensures
    ∙ sym (append-nil c.loop-told.list.items)
    ∙ ap (λ (hs : List HeldIncarnation). c.loop-told.list.items ++ map told_incarnation hs) (sym c.in-None.ensures.steps.0)
    ∙ c.loop-told.invariant.2
