use Rattle.std.proofs.Common.{List, nat_eq, map, sym, ap, ◌∙◌}
use Rattle.std.specs.Cmp.Lexicographic.{pointwise}
use Rattle.std.specs.List.{dedup}
use Rattle.gateway_kit.specs.GatewayState.{GatewayState}
use Rattle.gateway_kit.specs.IncarnationState.{IncarnationState}
use Rattle.gateway_kit.specs.Listing.{held_services}
use Rattle.gateway_kit.proofs.Listed.{services_listed}
use Rattle.gateway_kit.proofs.gateway.Gateway.services.Goals as goal

pub returns : goal.returns
returns c =
    record {
      value =
          ap (λ (ps : List IncarnationState). dedup (pointwise nat_eq) (map (λ p. p.writer.service) ps)) c.all.ensures
          ∙ sym (services_listed c.self.inside.incarnations.items c.self.inside.len c.self.invariant.0)
          ∙ ap (λ (v : GatewayState). held_services v.points) c.self.view_is;
    }
