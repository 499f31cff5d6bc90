use Rattle.std.proofs.Common.{◌≡◌, ◌+◌, List, [], ◌∷◌, is_some, nat_lt, true≢false, sym, ap, subst, ◌∙◌, arith, refl}
use Rattle.std.specs.FinMap.{get, from_sorted, from_entries}
use Rattle.point_kit.specs.Exports.{join_points, changed_points}
use Rattle.point_kit.specs.Orders.{key_cmp}
use Rattle.gateway_kit.specs.Incarnations.{IsWhole, all_points}
use Rattle.gateway_kit.specs.IncarnationState.{IncarnationState}
use Rattle.gateway_kit.specs.Tallies.{conflicts_of}
use Rattle.gateway_kit.specs.GatewayState.{GatewayState}
use Rattle.gateway_kit.proofs.AllMoves.{numbers_left}
use Rattle.gateway_kit.proofs.Joining.{get_points}
use Rattle.gateway_kit.proofs.Tallies.{told_few, told_total, told_under}
use Rattle.gateway_kit.proofs.gateway.Gateway.join_cell.Goals as goal

pub returns-in_err-growth-clause-held : goal.returns-in_err-growth-clause-held
returns-in_err-growth-clause-held c = λ some.
    let key = c.args.key in
    absurd (true≢false (sym (c.in_err-growth.ensures.held (ap is_some (sym (get_points c.self.inside.incarnations.items c.self.invariant.0.sorted (key.writer, key.start) (key.stream, key.attrs)) ∙ ap (λ (v : GatewayState). get v.points key) c.self.view_is) ∙ some))))

pub overflow_add-self : goal.overflow_add-self
overflow_add-self c = let few = c.in_ok-growth.ensures.grows.whole.bounded in omega (arith, few)

pub overflow_sub-self : goal.overflow_sub-self
overflow_sub-self c = told_under c.self.inside.incarnations.items c.join_in.new.incarnations.items c.in_ok-growth.growth.before c.in_ok-growth.growth.after c.self.inside.conflicts c.self.invariant.1 c.in_ok-growth.ensures.grows.tells

pub overflow_add-self-2 : goal.overflow_add-self-2
overflow_add-self-2 c =
    let few = told_few c.self.inside.incarnations.items c.join_in.new.incarnations.items c.in_ok-growth.growth.before c.in_ok-growth.growth.after c.self.inside.conflicts c.self.invariant.1 c.in_ok-growth.ensures.grows.tells (c.self.inside.len + c.in_ok-growth.growth.more) c.in_ok-growth.ensures.grows.whole in
    omega (arith, few)

pub invariant_of-self-2 : goal.invariant_of-self-2
invariant_of-self-2 c = (c.in_ok-growth.ensures.grows.whole, told_total c.self.inside.incarnations.items c.join_in.new.incarnations.items c.in_ok-growth.growth.before c.in_ok-growth.growth.after c.self.inside.conflicts c.self.invariant.1 c.in_ok-growth.ensures.grows.tells, c.in_ok-growth.ensures.covered c.self.invariant.2)

pub returns-clause-ok : goal.returns-clause-ok
returns-clause-ok c = c.in_ok-growth.ensures.grows.joins ∙ ap (λ (v : GatewayState). join_points v.points (from_entries ((c.args.key, c.args.cell) ∷ []))) c.self.view_is

pub returns-clause-value : goal.returns-clause-value
returns-clause-value c = ap (nat_lt 0) (c.in_ok-growth.ensures.grows.changes ∙ ap (λ (v : GatewayState). changed_points v.points (from_sorted {R = key_cmp} (all_points c.join_in.new.incarnations.items))) c.self.view_is)

pub returns-clause-numbers : goal.returns-clause-numbers
returns-clause-numbers c = numbers_left c.self.inside.id c.self.inside.id c.self.inside.incarnations.items c.join_in.new.incarnations.items c.args.self.now _ c.self.invariant.0.sorted c.in_ok-growth.ensures.grows.whole.sorted c.self.view_is refl c.in_ok-growth.ensures.moves

pub invariant_of-self : goal.invariant_of-self
invariant_of-self c =
    let same : c.join_in.new.incarnations.items ≡ c.self.inside.incarnations.items = c.in_err-growth.ensures.unchanged in
    (subst (λ (ps : List IncarnationState). IsWhole ps c.self.inside.len) (sym same) c.self.invariant.0, c.self.invariant.1 ∙ ap (λ (ps : List IncarnationState). conflicts_of ps) (sym same), c.in_err-growth.ensures.covered c.self.invariant.2)
