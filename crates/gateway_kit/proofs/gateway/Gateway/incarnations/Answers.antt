use Rattle.std.proofs.Common.{map, sym, ap, ◌∙◌}
use Rattle.gateway_kit.specs.GatewayState.{GatewayState}
use Rattle.gateway_kit.specs.Listing.{held_as_kept, held_incarnations}
use Rattle.gateway_kit.proofs.Listed.{incarnations_listed}
use Rattle.gateway_kit.proofs.gateway.Gateway.incarnations.Goals as goal

pub returns : goal.returns
returns c =
    record {
      value =
          ap (map held_as_kept) c.all.ensures
          ∙ sym (incarnations_listed c.self.inside.incarnations.items c.self.inside.len c.self.invariant.0)
          ∙ ap (λ (v : GatewayState). held_incarnations v.points) c.self.view_is;
    }
