use Rattle.std.proofs.Common.{◌≡◌, ◌<◌, List, length, sym, ap, subst, ◌∙◌, arith, rules}
use Rattle.std.proofs.lemmas.Grind.{common_steps}
use Rattle.std.proofs.lemmas.List.{length-take-le}
use Rattle.gateway_kit.specs.Covering.{AreCovered, IsUpTo}
use Rattle.gateway_kit.specs.IncarnationState.{IncarnationState}
use Rattle.gateway_kit.proofs.Covered.{insert_covered}
use Rattle.gateway_kit.proofs.incarnations.copy_incarnations.Goals as goal

pub loop-place-preserved : goal.loop-place-preserved
loop-place-preserved c =
    let xs = c.args.incarnations.now.items in
    let i = c.loop-place.place in
    let copy = c.loop-place.copy in
    let value = c.in_ok-try_copy.field-0 in
    let within : i < length xs = grind (arith, common_steps) in
    let long : length copy.items ≡ i = ap length c.loop-place.invariant.items ∙ length-take-le i xs (omega arith) in
    let same : value ≡ c.get-incarnation.result.now = search rules in
    let up : IsUpTo c.most.result value = subst (λ (p : IncarnationState). IsUpTo c.most.result p) (sym same) c.most.ensures in
    record {
      items = grind (arith, common_steps);
      covered = subst (λ (ps : List IncarnationState). AreCovered c.insert.new.self.bounds ps) (sym c.in_ok-insert.ensures.ok)
          (insert_covered copy.bounds c.insert.new.self.bounds copy.items i c.most.result value c.in_ok-insert.ensures.bounds c.bounds_match.ensures (omega (arith, long)) up c.loop-place.invariant.covered);
    }
