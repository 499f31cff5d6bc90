use Rattle.std.proofs.Common.{◌≡◌, ◌∙◌, ◌+◌, ◌∷◌, [], ◌++◌, List, suc, sym, ap, take, arith}
use Rattle.point_kit.specs.declared.stream.Stream.{Stream}
use Rattle.kit_c.proofs.Numbers.{none_there, take-push}
use Rattle.kit_c.proofs.streams.streams.Goals as goal
use Rattle.kit_c.proofs.streams.streams.Goals.{in-Some+in_ok-push_copy, in_default}

pub loop-number-preserved : goal.loop-number-preserved
loop-number-preserved c =
    let ss : List Stream = c.args.plan.now.streams in
    let i = c.loop-number.number in
    let z : suc i ≡ i + 1 = omega arith in
    elim c.match-stream.branch [
      | in-Some+in_ok-push_copy w ↦
          rw w.copies-is (
          w.in_ok-push_copy.ensures
          ∙ ap (λ (l : List Stream). l ++ w.in-Some.stream.now ∷ []) c.loop-number.invariant
          ∙ sym (take-push ss i w.in-Some.stream.now (sym w.in-Some.ensures.value))
          ∙ ap (λ k. take k ss) z
          )
      | in_default w ↦ absurd (none_there ss i (omega (arith, c.loop-number-test.true, c.streams_len.ensures.len)) (sym w.in_default.ensures.value))
    ]
