use Rattle.std.proofs.Common.{refl, sym, ap, ◌∙◌}
use Rattle.std.specs.FinMap.{entries}
use Rattle.gateway_kit.specs.Queries.{incarnation_points}
use Rattle.gateway_kit.specs.GatewayState.{GatewayState}
use Rattle.gateway_kit.proofs.Queried.{points_there, points_nowhere}
use Rattle.gateway_kit.proofs.Served.{items_under}
use Rattle.gateway_kit.proofs.gateway.Gateway.part.Goals as goal

pub returns-in-Ok : goal.returns-in-Ok
returns-in-Ok c =
    let w = c.args.writer.now in
    let s = c.args.start in
    let p = c.get.result.now in
    record {
      value =
          items_under (w, s) c.items.result.now (entries p.cells) c.items.ensures.entries
          ∙ sym (points_there (w, s) c.self.inside.incarnations.items c.self.inside.incarnations.items refl c.self.invariant.0.sorted c.in-Ok.place p c.in-Ok.ensures c.get.ensures.value)
          ∙ ap (λ (v : GatewayState). incarnation_points w s v.points) c.self.view_is;
    }

pub returns-in-Err : goal.returns-in-Err
returns-in-Err c = record {
  value =
      sym (points_nowhere (c.args.writer.now, c.args.start) c.self.inside.incarnations.items c.self.inside.incarnations.items refl c.self.invariant.0.sorted c.in-Err.field-0 c.in-Err.ensures)
      ∙ ap (λ (v : GatewayState). incarnation_points c.args.writer.now c.args.start v.points) c.self.view_is;
}
