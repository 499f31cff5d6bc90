use Rattle.std.proofs.Common.{List, count_by, sym, ap, ◌∙◌}
use Rattle.std.specs.FinMap.{entries}
use Rattle.point_kit.specs.declared.cell.Cell.{Cell}
use Rattle.point_kit.specs.declared.key.Key.{Key}
use Rattle.point_kit.specs.declared.payload.Payload.{Payload}
use Rattle.gateway_kit.specs.Queries.{has_conflict}
use Rattle.gateway_kit.specs.GatewayState.{GatewayState}
use Rattle.gateway_kit.proofs.Joining.{entries_points}
use Rattle.gateway_kit.proofs.Tallies.{conflicts_listed}
use Rattle.gateway_kit.proofs.gateway.Gateway.conflicts.Goals as goal

pub returns : goal.returns
returns c =
    let incarnations = c.self.inside.incarnations.items in
    record {
      value =
          c.self.invariant.1 ∙ conflicts_listed incarnations
          ∙ ap (λ (es : List (Key × Cell Payload)). count_by (λ e. has_conflict e.1) es) (sym (entries_points incarnations c.self.invariant.0.sorted))
          ∙ ap (λ (v : GatewayState). count_by (λ e. has_conflict e.1) (entries v.points)) c.self.view_is;
    }
