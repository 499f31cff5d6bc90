use Rattle.std.proofs.Common.{rules}
use Rattle.std.proofs.lemmas.Fn.{always_returns_same}
use Rattle.shelf_kit.proofs.part.search_on.Goals as goal

pub returns-clause-position : goal.returns-clause-position
returns-clause-position g c = c.binary_search_by.ensures.position (g.P.Target.order_of c.args.target.now) (always_returns_same _ _ _ (λ a r q k. search rules))
