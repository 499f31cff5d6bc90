use Rattle.std.proofs.Common.{sym, ap, ◌∙◌, rules}
use Rattle.gateway_kit.specs.IncarnationState.{IncarnationState}
use Rattle.gateway_kit.specs.Incarnations.{keyed_cells}
use Rattle.gateway_kit.specs.KeyOrders.{incarnation_total, incarnation_exact}
use Rattle.gateway_kit.specs.Keys.{incarnation_cmp}
use Rattle.gateway_kit.proofs.Places.{found}
use Rattle.gateway_kit.proofs.incarnations.place_near.Goals as goal

pub returns-in-Equal : goal.returns-in-Equal
returns-in-Equal c =
    let p = c.args.incarnation.now in
    found incarnation_total incarnation_exact keyed_cells (p.writer, p.start) c.args.incarnations.now.items c.args.hint c.get.result.now (search rules)
    (ap (λ (q : IncarnationState). incarnation_cmp (keyed_cells q).0 (p.writer, p.start)) (sym c.get.ensures.value)
    ∙ ap (λ (q : IncarnationState). incarnation_cmp (keyed_cells c.get.result.now).0 (q.writer, q.start)) (sym c.incarnation.view_is)
    ∙ sym c.order.ensures ∙ c.in-Equal.is)
