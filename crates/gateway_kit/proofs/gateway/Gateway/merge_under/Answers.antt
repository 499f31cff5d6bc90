use Rattle.std.proofs.Common.{◌+◌, ◌≡◌, [], List, length, sym, ap, subst, ◌∙◌, arith, refl, ℕ}
use Rattle.std.proofs.lemmas.Grind.{common_steps}
use Rattle.std.specs.FinMap.{from_sorted}
use Rattle.point_kit.specs.Exports.{join_points, changed_points}
use Rattle.point_kit.specs.Orders.{key_cmp}
use Rattle.gateway_kit.specs.IncarnationState.{IncarnationState}
use Rattle.gateway_kit.specs.Incarnations.{IsWhole, all_points}
use Rattle.gateway_kit.specs.Numbers.{IncarnationsMove}
use Rattle.gateway_kit.specs.Tallies.{conflicts_of}
use Rattle.gateway_kit.specs.GatewayState.{GatewayState}
use Rattle.gateway_kit.proofs.AllMoves.{numbers_left, gateway_moves, gateway_stays}
use Rattle.gateway_kit.proofs.Entries.{from_sorted-nil}
use Rattle.gateway_kit.proofs.Finishing.{no_items}
use Rattle.gateway_kit.proofs.Joining.{changed_nothing}
use Rattle.gateway_kit.proofs.Merged.{joined_empty, no_incarnations}
use Rattle.gateway_kit.proofs.Tallies.{told_few, told_total, told_under}
use Rattle.gateway_kit.proofs.gateway.Gateway.merge_under.Goals as goal

pub returns-then-is_empty-clause-ok : goal.returns-then-is_empty-clause-ok
returns-then-is_empty-clause-ok c =
    let none : c.other.inside.incarnations.items ≡ [] = no_items c.other.inside.incarnations.items (grind (arith, common_steps)) in
    joined_empty c.args.self.now.points ∙ ap (join_points c.args.self.now.points) (sym (ap (λ (v : GatewayState). v.points) (sym c.other.view_is) ∙ ap (λ l. from_sorted {R = key_cmp} (all_points l)) none ∙ from_sorted-nil))

pub returns-then-is_empty-clause-value : goal.returns-then-is_empty-clause-value
returns-then-is_empty-clause-value c = changed_nothing c.args.self.now.points

pub returns-in_err-growth-clause-no_points : goal.returns-in_err-growth-clause-no_points
returns-in_err-growth-clause-no_points c = λ none.
    let gone : c.other.inside.incarnations.items ≡ [] = no_incarnations c.other.inside.incarnations.items c.other.invariant.0.sorted c.other.invariant.0.filled (ap (λ (v : GatewayState). v.points) c.other.view_is ∙ none) in
    let short : length c.other.inside.incarnations.items ≡ 0 = ap length gone in
    absurd (grind (arith, common_steps))

pub returns-clause-no_points : goal.returns-clause-no_points
returns-clause-no_points c = λ none.
    let gone : c.other.inside.incarnations.items ≡ [] = no_incarnations c.other.inside.incarnations.items c.other.invariant.0.sorted c.other.invariant.0.filled (ap (λ (v : GatewayState). v.points) c.other.view_is ∙ none) in
    let short : length c.other.inside.incarnations.items ≡ 0 = ap length gone in
    absurd (grind (arith, common_steps))

pub overflow_add-self : goal.overflow_add-self
overflow_add-self c = let few = c.in_ok-growth.ensures.grows.whole.bounded in omega (arith, few)

pub overflow_sub-self : goal.overflow_sub-self
overflow_sub-self c = told_under c.self.inside.incarnations.items c.merge_in.new.incarnations.items c.in_ok-growth.growth.before c.in_ok-growth.growth.after c.self.inside.conflicts c.self.invariant.1 c.in_ok-growth.ensures.grows.tells

pub overflow_add-self-2 : goal.overflow_add-self-2
overflow_add-self-2 c =
    let few = told_few c.self.inside.incarnations.items c.merge_in.new.incarnations.items c.in_ok-growth.growth.before c.in_ok-growth.growth.after c.self.inside.conflicts c.self.invariant.1 c.in_ok-growth.ensures.grows.tells (c.self.inside.len + c.in_ok-growth.growth.more) c.in_ok-growth.ensures.grows.whole in
    omega (arith, few)

pub invariant_of-self-2 : goal.invariant_of-self-2
invariant_of-self-2 c = (c.in_ok-growth.ensures.grows.whole, told_total c.self.inside.incarnations.items c.merge_in.new.incarnations.items c.in_ok-growth.growth.before c.in_ok-growth.growth.after c.self.inside.conflicts c.self.invariant.1 c.in_ok-growth.ensures.grows.tells, c.in_ok-growth.ensures.covered c.self.invariant.2)

pub returns-clause-ok : goal.returns-clause-ok
returns-clause-ok c =
    let theirs = ap (λ (v : GatewayState). v.points) c.other.view_is in
    c.in_ok-growth.ensures.grows.joins ∙ (λ i. join_points (c.self.view_is i).points (theirs i))

pub returns-clause-value : goal.returns-clause-value
returns-clause-value c = c.in_ok-growth.ensures.grows.changes ∙ ap (λ (v : GatewayState). changed_points v.points (from_sorted {R = key_cmp} (all_points c.merge_in.new.incarnations.items))) c.self.view_is

pub returns-then-is_empty-clause-moves : goal.returns-then-is_empty-clause-moves
returns-then-is_empty-clause-moves c = gateway_stays c.args.number c.args.self.now

pub returns-clause-moves : goal.returns-clause-moves
returns-clause-moves c = gateway_moves c.args.number c.self.inside.id c.self.inside.id c.self.inside.incarnations.items c.merge_in.new.incarnations.items c.args.self.now _ c.self.invariant.0.sorted c.in_ok-growth.ensures.grows.whole.sorted c.self.view_is refl c.in_ok-growth.ensures.moves

pub returns-clause-kept : goal.returns-clause-kept
returns-clause-kept c = λ none.
    let olds = c.self.inside.incarnations.items in
    let news = c.merge_in.new.incarnations.items in
    numbers_left c.self.inside.id c.self.inside.id olds news c.args.self.now _ c.self.invariant.0.sorted c.in_ok-growth.ensures.grows.whole.sorted c.self.view_is refl (subst (λ (n : ℕ). IncarnationsMove n olds news) none c.in_ok-growth.ensures.moves)

pub invariant_of-self : goal.invariant_of-self
invariant_of-self c =
    let same : c.merge_in.new.incarnations.items ≡ c.self.inside.incarnations.items = c.in_err-growth.ensures.unchanged in
    (subst (λ (ps : List IncarnationState). IsWhole ps c.self.inside.len) (sym same) c.self.invariant.0, c.self.invariant.1 ∙ ap (λ (ps : List IncarnationState). conflicts_of ps) (sym same), c.in_err-growth.ensures.covered c.self.invariant.2)
