use Rattle.std.proofs.Common.{◌+◌, sym, ◌∙◌, arith}
use Rattle.gateway_kit.proofs.Bounded.{newer_passed}
use Rattle.gateway_kit.proofs.items.newer_items.Goals as goal

pub loop-place-preserved-then-passed-gt0 : goal.loop-place-preserved-then-passed-gt0
loop-place-preserved-then-passed-gt0 c =
    let place = c.loop-place.place in
    c.loop-place.invariant
    ∙ sym (newer_passed c.args.number c.args.items.now place (place + c.passable-passed.result) (omega arith) (λ j x from to within is. c.passable-passed.ensures.none j x.number from to (c.requires j x within is)))
