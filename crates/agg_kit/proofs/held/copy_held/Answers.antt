use Rattle.std.proofs.Common.{◌≡◌, ◌∙◌, ◌+◌, ◌∷◌, [], ◌++◌, ◌<◌, inl, inr, ℕ, List, length, get_or, slice_get, take, sym, ap, subst}
use Rattle.std.proofs.lemmas.List.{take_more, map-append}
use Rattle.attr_kit.specs.declared.attr_set.AttrSet.{AttrSet}
use Rattle.agg_kit.specs.Held.{held_of, IsPlaceless}
use Rattle.agg_kit.specs.declared.held.HeldPoint.{HeldPoint}
use Rattle.agg_kit.proofs.HeldPoints.{room-push}
use Rattle.agg_kit.proofs.Records.{get-push}
use Rattle.agg_kit.proofs.held.copy_held.Goals as goal

pub loop-point-preserved : goal.loop-point-preserved
loop-point-preserved c =
    let hs : List HeldPoint = c.args.held.now.items in
    let i = c.loop-point.point-index in
    let point : HeldPoint = c.point-item.result in
    let copied : HeldPoint = record { instrument = point.instrument; attrs = c.in_ok-try_copy.field-0; places = c.in_ok-unknown_of.field-0 } in
    let had : List HeldPoint = c.loop-point.copy.items in
    let shown : HeldPoint → ℕ × AttrSet = λ h. (h.instrument, h.attrs) in
    let taken : take (i + 1) hs ≡ take i hs ++ point ∷ [] =
    let l : i < length hs = subst (λ (l : List HeldPoint). i < length l) c.deref-point-items.ensures.value c.loop-point-test.true in
    let is : point ≡ get_or hs i point = subst (λ (l : List HeldPoint). point ≡ get_or l i point) c.deref-point-items.ensures.value c.point-item.is in
    take_more hs i point l ∙ ap (λ (x : HeldPoint). take i hs ++ x ∷ []) (sym is) in
    record {
      same =
          ap held_of c.in_ok-push.ensures.items
          ∙ map-append shown had (copied ∷ [])
          ∙ ap (λ l. l ++ (point.instrument, c.in_ok-try_copy.field-0) ∷ []) c.loop-point.invariant.same
          ∙ ap (λ (a : AttrSet). held_of (take i hs) ++ (point.instrument, a) ∷ []) c.in_ok-try_copy.ensures.value
          ∙ sym (ap held_of taken ∙ map-append shown (take i hs) (point ∷ []));
      none = λ n h at. elim (get-push had copied h n (sym (ap (λ (l : List HeldPoint). slice_get l n) c.in_ok-push.ensures.items) ∙ at)) [
        | inl g ↦ c.loop-point.invariant.none n h g
        | inr g ↦ subst (λ (x : HeldPoint). IsPlaceless x.places) g.1 c.in_ok-unknown_of.ensures.none
      ];
      room = room-push c.args.plan.now had c.push.new.self.items copied c.in_ok-push.ensures.items c.loop-point.invariant.room c.in_ok-unknown_of.ensures.room;
    }
