use Rattle.std.proofs.Common.{length, sym, ap, ◌∙◌}
use Rattle.std.specs.FinMap.{len, len-entries, from_sorted}
use Rattle.point_kit.specs.Orders.{key_cmp}
use Rattle.gateway_kit.specs.Incarnations.{all_points}
use Rattle.gateway_kit.specs.GatewayState.{GatewayState}
use Rattle.gateway_kit.proofs.Joining.{entries_points}
use Rattle.gateway_kit.proofs.gateway.Gateway.len.Goals as goal

pub returns-clause-value : goal.returns-clause-value
returns-clause-value c =
    let incarnations = c.self.inside.incarnations.items in
    c.self.invariant.0.counted
    ∙ ap length (sym (entries_points incarnations c.self.invariant.0.sorted))
    ∙ sym (len-entries (from_sorted {R = key_cmp} (all_points incarnations)))
    ∙ ap (λ (v : GatewayState). len v.points) c.self.view_is
