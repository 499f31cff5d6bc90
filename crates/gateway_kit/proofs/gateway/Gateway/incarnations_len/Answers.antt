use Rattle.std.proofs.Common.{length, sym, ap, ◌∙◌}
use Rattle.std.proofs.lemmas.List.{length-map}
use Rattle.gateway_kit.specs.GatewayState.{GatewayState}
use Rattle.gateway_kit.specs.Listing.{held_as_kept, held_incarnations}
use Rattle.gateway_kit.proofs.Listed.{incarnations_listed}
use Rattle.gateway_kit.proofs.gateway.Gateway.incarnations_len.Goals as goal

pub returns : goal.returns
returns c =
    record {
      value =
          c.len.ensures.value
          ∙ sym (length-map c.self.inside.incarnations.items held_as_kept)
          ∙ ap length (sym (incarnations_listed c.self.inside.incarnations.items c.self.inside.len c.self.invariant.0))
          ∙ ap (λ (v : GatewayState). length (held_incarnations v.points)) c.self.view_is;
    }
