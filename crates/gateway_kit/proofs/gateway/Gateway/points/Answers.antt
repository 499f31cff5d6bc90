use Rattle.std.proofs.Common.{sym, ap, ◌∙◌}
use Rattle.std.specs.FinMap.{entries}
use Rattle.shelf_kit.specs.Walks.{walk_left}
use Rattle.gateway_kit.specs.Incarnations.{all_points}
use Rattle.gateway_kit.specs.GatewayState.{GatewayState}
use Rattle.gateway_kit.proofs.Joining.{entries_points}
use Rattle.gateway_kit.proofs.Served.{filter_all}
use Rattle.gateway_kit.proofs.gateway.Gateway.points.Goals as goal

pub returns : goal.returns
returns c =
    record {
      value =
          filter_all (all_points (walk_left c.all.result)) ∙ ap all_points c.all.ensures
          ∙ sym (entries_points c.self.inside.incarnations.items c.self.invariant.0.sorted)
          ∙ ap (λ (v : GatewayState). entries v.points) c.self.view_is;
    }
