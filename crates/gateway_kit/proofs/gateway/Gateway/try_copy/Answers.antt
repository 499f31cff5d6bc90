use Rattle.std.proofs.Common.{List, sym, ap, subst, ◌∙◌}
use Rattle.gateway_kit.specs.Incarnations.{IsWhole}
use Rattle.gateway_kit.specs.IncarnationState.{IncarnationState}
use Rattle.gateway_kit.specs.Tallies.{conflicts_of}
use Rattle.gateway_kit.proofs.gateway.Gateway.try_copy.Goals as goal

pub invariant_of-result : goal.invariant_of-result
invariant_of-result c =
    let same = c.in_ok-copy_incarnations.ensures.items in (
      subst (λ (ps : List IncarnationState). IsWhole ps c.self.inside.len) (sym same) c.self.invariant.0,
      c.self.invariant.1 ∙ ap (λ (ps : List IncarnationState). conflicts_of ps) (sym same),
      c.in_ok-copy_incarnations.ensures.covered,
    )
