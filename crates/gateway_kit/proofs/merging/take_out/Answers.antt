use Rattle.std.proofs.Common.{◌≡◌, ◌<◌, ◌≤◌, ℕ, List, [], ◌∷◌, ◌++◌, length, sym, ap, subst, ◌∙◌, arith}
use Rattle.std.proofs.lemmas.Grind.{common_steps}
use Rattle.std.specs.List.{remove}
use Rattle.gateway_kit.specs.Covering.{AreCovered}
use Rattle.gateway_kit.specs.IncarnationState.{IncarnationState}
use Rattle.gateway_kit.specs.Inserting.{taken_out}
use Rattle.gateway_kit.proofs.Covered.{remove_covered}
use Rattle.gateway_kit.proofs.Inserted.{remove_past, taken_push}
use Rattle.gateway_kit.proofs.merging.take_out.Goals as goal

pub loop-place-preserved-then-place-len : goal.loop-place-preserved-then-place-len
loop-place-preserved-then-place-len c =
    let here = c.loop-place.incarnations.items in
    let bounds = c.loop-place.incarnations.bounds in
    let left = c.pop.new.self.items in
    let place = c.in-Some.place in
    let inv = c.loop-place.invariant in
    let popped : c.loop-place.places.items ≡ left ++ place ∷ [] = c.in-Some.ensures.items in
    let within : place < length here = grind (arith, common_steps) in
    record {
      items = ap (λ (l : List IncarnationState). taken_out l left) c.remove.ensures.items ∙ sym (taken_push here left place) ∙ ap (taken_out here) (sym popped) ∙ inv.items;
      covered = λ covered.
          subst (λ (b : List ℕ). AreCovered b c.remove.new.self.items) (sym c.remove.ensures.bounds)
          (subst (λ (ps : List IncarnationState). AreCovered (remove bounds place) ps) (sym c.remove.ensures.items)
          (remove_covered bounds here place c.bounds_match.ensures within (inv.covered covered)));
    }

pub loop-place-preserved : goal.loop-place-preserved
loop-place-preserved c =
    let here = c.loop-place.incarnations.items in
    let left = c.pop.new.self.items in
    let place = c.in-Some.place in
    let inv = c.loop-place.invariant in
    let popped : c.loop-place.places.items ≡ left ++ place ∷ [] = c.in-Some.ensures.items in
    let past : length here ≤ place = grind (arith, common_steps) in
    record {
      items = ap (λ (l : List IncarnationState). taken_out l left) (sym (remove_past here place past)) ∙ sym (taken_push here left place) ∙ ap (taken_out here) (sym popped) ∙ inv.items;
      covered = inv.covered;
    }
