use Rattle.std.proofs.Common.{Option, refl, sym, ap, ◌∙◌}
use Rattle.std.specs.FinMap.{get, get-entries}
use Rattle.std.specs.FinMap.Entries.{find}
use Rattle.gateway_kit.specs.Keys.{item_cmp}
use Rattle.gateway_kit.specs.IncarnationState.{Cells}
use Rattle.gateway_kit.specs.Incarnations.{entries_at}
use Rattle.gateway_kit.specs.GatewayState.{GatewayState}
use Rattle.gateway_kit.proofs.Joining.{get_points}
use Rattle.gateway_kit.proofs.Queried.{found_there, found_nowhere}
use Rattle.gateway_kit.proofs.gateway.Gateway.find.Goals as goal

pub returns-in-Ok : goal.returns-in-Ok
returns-in-Ok c =
    let incarnations = c.self.inside.incarnations.items in
    let k = c.args.key.now in
    let p = c.get.result.now in
    let found = found_there (k.writer, k.start) c.self.inside.incarnations.items incarnations refl c.self.invariant.0.sorted c.in-Ok.place p c.in-Ok.ensures c.get.ensures.value in
    record {
      value =
          c.find.ensures
          ∙ get-entries p.cells (k.stream, k.attrs)
          ∙ ap (λ (o : Option Cells). find item_cmp (k.stream, k.attrs) (entries_at o)) (sym found)
          ∙ sym (get_points incarnations c.self.invariant.0.sorted (k.writer, k.start) (k.stream, k.attrs))
          ∙ ap (λ (v : GatewayState). get v.points k) c.self.view_is;
    }

pub returns-in-Err : goal.returns-in-Err
returns-in-Err c =
    let incarnations = c.self.inside.incarnations.items in
    let k = c.args.key.now in
    let none = found_nowhere (k.writer, k.start) c.self.inside.incarnations.items incarnations refl c.self.invariant.0.sorted c.in-Err.field-0 c.in-Err.ensures in
    record {
      value =
          ap (λ (o : Option Cells). find item_cmp (k.stream, k.attrs) (entries_at o)) (sym none)
          ∙ sym (get_points incarnations c.self.invariant.0.sorted (k.writer, k.start) (k.stream, k.attrs))
          ∙ ap (λ (v : GatewayState). get v.points k) c.self.view_is;
    }
