use Rattle.std.proofs.Common.{◌<◌, length, ◌∙◌, arith}
use Rattle.std.proofs.lemmas.Grind.{common_steps}
use Rattle.std.proofs.lemmas.List.{length-set}
use Rattle.gateway_kit.specs.Incarnations.{keyed_cells}
use Rattle.gateway_kit.specs.Numbers.{IsNumbered}
use Rattle.gateway_kit.proofs.Moved.{set_same}
use Rattle.gateway_kit.proofs.Movement.{before_set}
use Rattle.gateway_kit.proofs.incarnations.without_numbers.Goals as goal

pub loop-place-preserved : goal.loop-place-preserved
loop-place-preserved c =
    let ps = c.loop-place.incarnations.items in
    let within : c.loop-place.place < length ps = grind (arith, common_steps) in
    record {
      same = set_same keyed_cells ps c.loop-place.place c.get_mut.result.now c.renumber.new.self c.get_mut.ensures.value c.renumber.ensures.same ∙ c.loop-place.invariant.same;
      len = length-set ps c.loop-place.place c.renumber.new.self ∙ c.loop-place.invariant.len;
      numbers = before_set (IsNumbered 0) ps c.loop-place.place c.renumber.new.self within c.loop-place.invariant.numbers c.renumber.ensures.numbers;
    }
