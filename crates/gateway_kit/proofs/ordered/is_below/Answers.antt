use Rattle.std.proofs.Common.{◌≡◌, ◌+◌, ◌-◌, ◌<◌, length, sym, subst, ◌∙◌, arith}
use Rattle.gateway_kit.specs.Weave.{AreBelow, by_key}
use Rattle.gateway_kit.proofs.Seeking.{below_here}
use Rattle.gateway_kit.proofs.ordered.is_below.Goals as goal

pub returns-in-Less-clause-below : goal.returns-in-Less-clause-below
returns-in-Less-clause-below g c = λ yes.
    let K = g.T.Keyed in
    let values = c.args.values.now in
    let last = c.args.place + (c.args.count - 1) in
    let within : c.args.place + (c.args.count - 1) < length c.args.values.now = omega arith in
    let back : (c.args.place + (c.args.count - 1)) + 1 ≡ c.args.place + c.args.count = omega arith in
    subst (λ i. AreBelow (by_key K.compare K.entry) values c.args.key.now i) back
    (below_here (by_key K.compare K.entry) values c.args.key.now last c.index-values-last.result within c.index-values-last.is (sym c.order.ensures ∙ c.in-Less.is))
