use Rattle.std.proofs.Common.{◌+◌, ◌≤◌, length, arith}
use Rattle.std.proofs.lemmas.Grind.{common_steps}
use Rattle.gateway_kit.proofs.ordered.skip_below.Goals as goal

pub double-preserved : goal.double-preserved
double-preserved g c =
    let within : c.double.place + c.double.step ≤ length c.args.values.now = c.is_below.ensures.within c.double-test.true in
    record {
      some = grind (arith, common_steps);
      within = within;
      on = omega (arith, c.double.invariant.on);
      below = λ h. c.is_below.ensures.below c.double-test.true;
    }

pub halve-preserved-then-is_below : goal.halve-preserved-then-is_below
halve-preserved-then-is_below g c = record {
  within = c.is_below-in-halve.ensures.within c.if-is_below.true;
  on = omega (arith, c.halve.invariant.on);
  below = λ h. c.is_below-in-halve.ensures.below c.if-is_below.true;
}
