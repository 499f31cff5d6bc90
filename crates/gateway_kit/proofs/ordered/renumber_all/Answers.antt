use Rattle.std.proofs.Common.{◌<◌, refl, length, ◌∙◌, arith, rules}
use Rattle.std.proofs.lemmas.Grind.{common_steps}
use Rattle.gateway_kit.proofs.Moved.{set_same}
use Rattle.gateway_kit.proofs.Movement.{before_set}
use Rattle.gateway_kit.proofs.ordered.renumber_all.Goals as goal

pub loop-place-init : goal.loop-place-init
loop-place-init g c = record { same = refl; len = refl; numbers = λ i x l is. absurd (omega (arith, l)) }

pub loop-place-preserved : goal.loop-place-preserved
loop-place-preserved g c =
    let values = c.loop-place.values.items in
    let within : c.loop-place.place < length values = grind (arith, common_steps) in
    record {
      same = set_same g.T.Keyed.entry values c.loop-place.place c.index_mut.result.now c.renumber.new.self c.index_mut.ensures.value c.renumber.ensures.same ∙ c.loop-place.invariant.same;
      len = search rules;
      numbers = before_set (g.T.Keyed.IsNumbered c.args.number) values c.loop-place.place c.renumber.new.self within c.loop-place.invariant.numbers c.renumber.ensures.numbers;
    }

pub returns-clause-same : goal.returns-clause-same
returns-clause-same g c = c.loop-place.invariant.same

pub returns-clause-numbers : goal.returns-clause-numbers
returns-clause-numbers g c = λ i x l is. c.loop-place.invariant.numbers i x (grind (arith, common_steps)) is
