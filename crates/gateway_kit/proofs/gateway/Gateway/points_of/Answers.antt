use Rattle.std.proofs.Common.{filter, sym, ap, ◌∙◌}
use Rattle.std.specs.FinMap.{entries}
use Rattle.gateway_kit.specs.GatewayState.{GatewayState}
use Rattle.gateway_kit.specs.Walks.{is_of}
use Rattle.gateway_kit.proofs.Joining.{entries_points}
use Rattle.gateway_kit.proofs.gateway.Gateway.points_of.Goals as goal

pub returns : goal.returns
returns c =
    record {
      value =
          c.incarnations_of.ensures
          ∙ ap (filter (λ e. is_of c.args.service.now e.0.writer))
          (sym (entries_points c.self.inside.incarnations.items c.self.invariant.0.sorted)
          ∙ ap (λ (v : GatewayState). entries v.points) c.self.view_is);
    }
