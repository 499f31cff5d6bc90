use Rattle.std.proofs.Common.{◌≡◌, sym, subst, ◌∙◌}
use Rattle.std.specs.Prelude.{IfOk}
use Rattle.point_kit.specs.Exact.{exact_streams}
use Rattle.point_kit.specs.declared.stream.Stream.{Stream}
use Rattle.gateway_kit.proofs.items.stream_at.Goals as goal

pub returns : goal.returns
returns c =
    let same : c.in-Some-get.item.now.stream ≡ c.args.stream = sym c.get-2.ensures.value ∙ exact_streams c.get-2.result.now c.args.stream (sym c.eq.ensures ∙ c.if-eq.true) in
    subst (λ (s : Stream). IfOk c.try_copy.result (λ copy. copy ≡ s)) same c.try_copy.ensures.value
