use Rattle.std.proofs.Common.{List, subst}
use Rattle.gateway_kit.specs.Changing.{KeyedCell}
use Rattle.gateway_kit.specs.Keys.{ItemKey, item_cmp}
use Rattle.gateway_kit.specs.Places.{IsAt}
use Rattle.gateway_kit.proofs.incarnation.Incarnation.join.Goals as goal

pub returns-in-Ok-clause-joins : goal.returns-in-Ok-clause-joins
returns-in-Ok-clause-joins c =
    let key : ItemKey = (c.args.stream, c.args.attrs) in
    c.join_at.ensures.joins key (subst (λ (es : List KeyedCell). IsAt item_cmp es key c.in-Ok.place) c.items.ensures.entries c.in-Ok.ensures)
