use Rattle.std.proofs.Common.{◌≤◌, ℕ, List, sym, subst}
use Rattle.gateway_kit.specs.Keys.{ItemKey, item_cmp}
use Rattle.gateway_kit.specs.Numbers.{number_in}
use Rattle.gateway_kit.proofs.ItemMoves.{numbers_in, up_to_in}
use Rattle.gateway_kit.proofs.incarnation.Incarnation.most.Goals as goal

pub returns : goal.returns
returns c = λ q.
    subst (λ (es : List (ItemKey × ℕ)). number_in item_cmp es q ≤ c.self.inside.number) (sym (numbers_in c.args.self.now c.self.inside.writer c.self.inside.start c.self.inside.items.items c.self.invariant.sorted c.self.view_is))
    (up_to_in c.self.inside.number c.self.inside.items.items c.self.invariant.up_to q)
