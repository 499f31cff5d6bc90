use Rattle.std.proofs.Common.{◌≡◌, ◌∙◌, ◌-◌, ◌<◌, ◌≤◌, inl, inr, List, Some, length, sym, ap, subst, arith}
use Rattle.std.proofs.lemmas.Grind.{common_steps}
use Rattle.std.proofs.lemmas.Option.{slice_get_within}
use Rattle.point_kit.specs.declared.export.Export.{Export}
use Rattle.world_kit.proofs.Places.{export_missing, export_there, stands_at}
use Rattle.world_kit.proofs.GatewayEvents.{deliver_nowhere, deliver_wants, deliver_zero, deliver_past, delivers}
use Rattle.world_kit.proofs.Replies.{left_as, seen_as, wants_as}
use Rattle.world_kit.specs.Wanting.{IsWithoutPoints}
use Rattle.world_kit.specs.WorldState.{WorldState, export_at}
use Rattle.world_kit.proofs.world.World.deliver.Goals as goal

pub returns-then-gateway-len-clause-ok : goal.returns-then-gateway-len-clause-ok
returns-then-gateway-len-clause-ok c = left_as _ _ _ _ c.self.view_is (deliver_nowhere _ c.args.export c.args.gateway (grind (arith, common_steps)))

pub returns-in_default-clause-ok : goal.returns-in_default-clause-ok
returns-in_default-clause-ok c =
    let there : c.args.gateway < length c.self.inside.nodes.items = grind (arith, common_steps) in
    let missing = c.in_default.ensures.value ∙ ap (λ (es : List Export). export_at es c.args.export) c.as_slice.ensures.value in
    left_as _ _ _ _ c.self.view_is (elim (export_missing c.self.inside.exports.items c.args.export missing) [
      | inl zero ↦ deliver_zero _ c.args.export c.args.gateway there zero
      | inr past ↦ deliver_past _ c.args.export c.args.gateway there past
    ])

pub returns-clause-ok : goal.returns-clause-ok
returns-clause-ok c =
    let nodes = c.self.inside.nodes.items in
    let there : c.args.gateway < length nodes = grind (arith, common_steps) in
    let its = export_there c.self.inside.exports.items c.args.export c.in-Some.brought.now (c.in-Some.ensures.value ∙ ap (λ (es : List Export). export_at es c.args.export) c.as_slice.ensures.value) in
    seen_as _ _ _ _ _ c.self.view_is (delivers _ c.args.export c.args.gateway c.in_ok-changed.changed c.in-Some.brought.now c.index_mut.result.now c.take.new.self its.0 its.1
    (stands_at nodes c.args.gateway c.index_mut.result.now there c.index_mut.ensures.value)
    c.in_ok-changed.ensures.id c.in_ok-changed.ensures.ok c.in_ok-changed.ensures.value c.in_ok-changed.ensures.numbers c.in_ok-changed.ensures.acked)

pub returns-in_err-changed-clause-no_memory : goal.returns-in_err-changed-clause-no_memory
returns-in_err-changed-clause-no_memory c =
    let there : c.args.gateway < length c.self.inside.nodes.items = grind (arith, common_steps) in
    let its = export_there c.self.inside.exports.items c.args.export c.in-Some.brought.now (c.in-Some.ensures.value ∙ ap (λ (es : List Export). export_at es c.args.export) c.as_slice.ensures.value) in
    let high = slice_get_within c.self.inside.exports.items (c.args.export - 1) c.in-Some.brought.now its.1 in
    let within : c.args.export ≤ length c.self.inside.exports.items = omega arith in
    wants_as _ _ _ _ c.self.view_is (deliver_wants _ c.args.export c.args.gateway there its.0 within)

pub returns-in_err-changed-clause-no_points : goal.returns-in_err-changed-clause-no_points
returns-in_err-changed-clause-no_points c = λ none.
    let at_x : export_at c.args.self.now.exports c.args.export ≡ Some c.in-Some.brought.now =
    ap (λ (w : WorldState). export_at w.exports c.args.export) (sym c.self.view_is)
    ∙ sym (c.in-Some.ensures.value ∙ ap (λ (es : List Export). export_at es c.args.export) c.as_slice.ensures.value) in
    let taken = c.in_err-changed.ensures.no_points (subst IsWithoutPoints at_x none) in
    cc taken
