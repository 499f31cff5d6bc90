use Rattle.std.proofs.Common.{◌≡◌, ◌+◌, ◌-◌, ◌<◌, length, sym, subst, arith, ◌∙◌}
use Rattle.gateway_kit.specs.Weave.{AreBelow, by_key}
use Rattle.gateway_kit.proofs.Seeking.{below_here}
use Rattle.gateway_kit.proofs.ordered.begin.Goals as goal

pub returns-in-Less-clause-below : goal.returns-in-Less-clause-below
returns-in-Less-clause-below g c =
    let last = c.args.hint - 1 in
    let within : last < length c.args.values.now = omega arith in
    let back : last + 1 ≡ c.args.hint = omega arith in
    subst (λ i. AreBelow (by_key g.T.Keyed.compare g.T.Keyed.entry) c.args.values.now c.args.key.now i) back (below_here (by_key g.T.Keyed.compare g.T.Keyed.entry) c.args.values.now c.args.key.now last c.index-values-last.result within c.index-values-last.is (sym c.order.ensures ∙ c.in-Less.is))
