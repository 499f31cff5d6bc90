use Rattle.std.proofs.Common.{◌≡◌, List, map, length, sym, ap, ◌∙◌}
use borrow.Author.Tests.{eqb-true}
use Rattle.std.proofs.lemmas.Bool.{eq-eqb}
use Rattle.std.specs.FinMap.{from_sorted, entries}
use Rattle.point_kit.specs.Exports.{Points}
use Rattle.point_kit.specs.Orders.{key_cmp}
use Rattle.gateway_kit.specs.Keys.{IncarnationKey, whole_key}
use Rattle.gateway_kit.specs.IncarnationState.{Cells}
use Rattle.gateway_kit.specs.Incarnations.{flatten, all_points, keyed_cells}
use Rattle.gateway_kit.specs.GatewayState.{GatewayState}
use Rattle.gateway_kit.proofs.Joining.{entries_points}
use Rattle.gateway_kit.proofs.Same.{same_incarnations}
use Rattle.gateway_kit.proofs.gateway.Gateway.same.Goals as goal

pub returns-then-self-other : goal.returns-then-self-other
returns-then-self-other c =
    let mine = c.self.inside.incarnations.items in
    let theirs = c.other.inside.incarnations.items in
    let mine_is : from_sorted {R = key_cmp} (all_points mine) ≡ c.args.self.now.points = ap (λ (v : GatewayState). v.points) c.self.view_is in
    let theirs_is : from_sorted {R = key_cmp} (all_points theirs) ≡ c.args.other.now.points = ap (λ (v : GatewayState). v.points) c.other.view_is in
    record {
      value = (
        λ equal.
            let incarnations : map keyed_cells mine ≡ map keyed_cells theirs = c.same_incarnations.ensures.0 equal in
            sym mine_is ∙ ap (λ (ps : List (IncarnationKey × Cells)). from_sorted {R = key_cmp} (flatten whole_key ps)) incarnations ∙ theirs_is,
        λ equal. c.same_incarnations.ensures.1 (same_incarnations mine theirs c.self.inside.len c.other.inside.len c.self.invariant.0 c.other.invariant.0 (mine_is ∙ equal ∙ sym theirs_is)),
      );
    }

pub returns-else-self-other : goal.returns-else-self-other
returns-else-self-other c =
    let mine = c.self.inside.incarnations.items in
    let theirs = c.other.inside.incarnations.items in
    record {
      value = (
        λ equal. absurd (c.if-self-other.false (eqb-true c.self.inside.len c.other.inside.len equal)),
        λ equal.
            let points : all_points mine ≡ all_points theirs =
            sym (entries_points mine c.self.invariant.0.sorted)
            ∙ ap (λ (m : Points). entries m) (ap (λ (v : GatewayState). v.points) c.self.view_is ∙ equal ∙ sym (ap (λ (v : GatewayState). v.points) c.other.view_is))
            ∙ entries_points theirs c.other.invariant.0.sorted in
            eq-eqb c.self.inside.len c.other.inside.len (c.self.invariant.0.counted ∙ ap length points ∙ sym c.other.invariant.0.counted),
      );
    }
