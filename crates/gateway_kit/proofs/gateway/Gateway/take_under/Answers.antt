use Rattle.std.proofs.Common.{◌+◌, ◌≡◌, List, [], ◌∷◌, length, sym, ap, ◌∙◌, arith, refl, subst, ℕ}
use Rattle.std.proofs.lemmas.Grind.{common_steps}
use Rattle.std.specs.FinMap.{from_sorted}
use Rattle.point_kit.specs.Exports.{state}
use Rattle.point_kit.specs.Orders.{key_cmp}
use Rattle.gateway_kit.specs.IncarnationState.{IncarnationState}
use Rattle.gateway_kit.specs.Incarnations.{IsWhole, all_points}
use Rattle.point_kit.specs.Exports.{join_points, changed_points}
use Rattle.gateway_kit.specs.Numbers.{IncarnationsMove}
use Rattle.gateway_kit.specs.Tallies.{conflicts_of}
use Rattle.gateway_kit.specs.GatewayState.{GatewayState}
use Rattle.gateway_kit.proofs.AllMoves.{numbers_left, gateway_moves, gateway_stays}
use Rattle.gateway_kit.proofs.Finishing.{no_items}
use Rattle.gateway_kit.proofs.Joining.{joined_nothing, changed_nothing}
use Rattle.gateway_kit.proofs.Tallies.{told_few, told_total, told_under}
use Rattle.gateway_kit.proofs.gateway.Gateway.take_under.Goals as goal

pub returns-then-is_empty-clause-ok : goal.returns-then-is_empty-clause-ok
returns-then-is_empty-clause-ok c =
    let none : c.args.export.now.points ≡ [] = no_items c.args.export.now.points (ap length (sym c.points.ensures.value) ∙ (grind (arith, common_steps))) in
    joined_nothing c.args.export.now none c.args.self.now.points

pub returns-then-is_empty-clause-value : goal.returns-then-is_empty-clause-value
returns-then-is_empty-clause-value c = changed_nothing c.args.self.now.points

pub overflow_add-self : goal.overflow_add-self
overflow_add-self c = let few = c.in_ok-growth.ensures.grows.whole.bounded in omega (arith, few)

pub overflow_sub-self : goal.overflow_sub-self
overflow_sub-self c = told_under c.self.inside.incarnations.items c.take_in.new.incarnations.items c.in_ok-growth.growth.before c.in_ok-growth.growth.after c.self.inside.conflicts c.self.invariant.1 c.in_ok-growth.ensures.grows.tells

pub overflow_add-self-2 : goal.overflow_add-self-2
overflow_add-self-2 c =
    let few = told_few c.self.inside.incarnations.items c.take_in.new.incarnations.items c.in_ok-growth.growth.before c.in_ok-growth.growth.after c.self.inside.conflicts c.self.invariant.1 c.in_ok-growth.ensures.grows.tells (c.self.inside.len + c.in_ok-growth.growth.more) c.in_ok-growth.ensures.grows.whole in
    omega (arith, few)

pub invariant_of-self-2 : goal.invariant_of-self-2
invariant_of-self-2 c = (c.in_ok-growth.ensures.grows.whole, told_total c.self.inside.incarnations.items c.take_in.new.incarnations.items c.in_ok-growth.growth.before c.in_ok-growth.growth.after c.self.inside.conflicts c.self.invariant.1 c.in_ok-growth.ensures.grows.tells, c.in_ok-growth.ensures.covered c.self.invariant.2)

pub returns-clause-ok : goal.returns-clause-ok
returns-clause-ok c = c.in_ok-growth.ensures.grows.joins ∙ ap (λ (v : GatewayState). join_points v.points (state (c.args.export.now ∷ []))) c.self.view_is

pub returns-clause-value : goal.returns-clause-value
returns-clause-value c = c.in_ok-growth.ensures.grows.changes ∙ ap (λ (v : GatewayState). changed_points v.points (from_sorted {R = key_cmp} (all_points c.take_in.new.incarnations.items))) c.self.view_is

pub returns-then-is_empty-clause-moves : goal.returns-then-is_empty-clause-moves
returns-then-is_empty-clause-moves c = gateway_stays c.args.number c.args.self.now

pub returns-clause-moves : goal.returns-clause-moves
returns-clause-moves c =
    let olds = c.self.inside.incarnations.items in
    let news = c.take_in.new.incarnations.items in
    gateway_moves c.args.number c.self.inside.id c.self.inside.id olds news c.args.self.now _ c.self.invariant.0.sorted c.in_ok-growth.ensures.grows.whole.sorted c.self.view_is refl c.in_ok-growth.ensures.moves

pub returns-clause-kept : goal.returns-clause-kept
returns-clause-kept c = λ none.
    let olds = c.self.inside.incarnations.items in
    let news = c.take_in.new.incarnations.items in
    numbers_left c.self.inside.id c.self.inside.id olds news c.args.self.now _ c.self.invariant.0.sorted c.in_ok-growth.ensures.grows.whole.sorted c.self.view_is refl (subst (λ (n : ℕ). IncarnationsMove n olds news) none c.in_ok-growth.ensures.moves)

pub invariant_of-self : goal.invariant_of-self
invariant_of-self c =
    let same : c.take_in.new.incarnations.items ≡ c.self.inside.incarnations.items = c.in_err-growth.ensures.unchanged in
    (subst (λ (ps : List IncarnationState). IsWhole ps c.self.inside.len) (sym same) c.self.invariant.0, c.self.invariant.1 ∙ ap (λ (ps : List IncarnationState). conflicts_of ps) (sym same), c.in_err-growth.ensures.covered c.self.invariant.2)
