use Rattle.std.proofs.Common.{Some, List, map, refl, sym, ap, ◌∙◌}
use Rattle.std.specs.FinMap.{entries}
use Rattle.point_kit.specs.declared.cell.Cell.{Cell}
use Rattle.point_kit.specs.declared.key.Key.{Key}
use Rattle.point_kit.specs.declared.payload.Payload.{Payload}
use Rattle.gateway_kit.specs.Queries.{newest_time}
use Rattle.gateway_kit.specs.Times.{greatest}
use Rattle.gateway_kit.specs.GatewayState.{GatewayState}
use Rattle.gateway_kit.proofs.Queried.{found_there, newest_under, points_there, points_nowhere}
use Rattle.gateway_kit.proofs.Same.{found_filled}
use Rattle.gateway_kit.proofs.gateway.Gateway.newest.Goals as goal

pub returns-in-Ok : goal.returns-in-Ok
returns-in-Ok c =
    let incarnations = c.self.inside.incarnations.items in
    let w = c.args.writer.now in
    let s = c.args.start in
    let p = c.get.result.now in
    let found = found_there (w, s) c.self.inside.incarnations.items incarnations refl c.self.invariant.0.sorted c.in-Ok.place p c.in-Ok.ensures c.get.ensures.value in
    let points = points_there (w, s) c.self.inside.incarnations.items incarnations refl c.self.invariant.0.sorted c.in-Ok.place p c.in-Ok.ensures c.get.ensures.value in
    record {
      value =
          ap (λ n. Some n) c.newest.ensures
          ∙ sym (newest_under (w, s) (entries p.cells) (found_filled (w, s) incarnations p.cells c.self.invariant.0.filled found))
          ∙ ap (λ (es : List (Key × Cell Payload)). greatest (map (λ e. e.1.time) es)) (sym points)
          ∙ ap (λ (v : GatewayState). newest_time w s v.points) c.self.view_is;
    }

pub returns-in-Err : goal.returns-in-Err
returns-in-Err c =
    let points = points_nowhere (c.args.writer.now, c.args.start) c.self.inside.incarnations.items c.self.inside.incarnations.items refl c.self.invariant.0.sorted c.in-Err.field-0 c.in-Err.ensures in
    record {
      value =
          ap (λ (es : List (Key × Cell Payload)). greatest (map (λ e. e.1.time) es)) (sym points)
          ∙ ap (λ (v : GatewayState). newest_time c.args.writer.now c.args.start v.points) c.self.view_is;
    }
