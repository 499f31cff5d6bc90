use Rattle.std.proofs.Common.{◌≡◌, ◌∙◌, sym, ap, Some, ℕ, List, subst}
use Rattle.std.proofs.lemmas.Result.{err_from_is_err_and}
use Rattle.otm_kit.specs.Declarations.{Declared}
use Rattle.otm_kit.specs.Places.{Knows}
use Rattle.otm_kit.proofs.Beginning.{are_of, begin_from_plan, begin_from_world, begin_sound, setup_is, stands_first}
use Rattle.otm_kit.proofs.begin.begin.Goals as goal

pub returns-in_err-plan-clause-err : goal.returns-in_err-plan-clause-err
returns-in_err-plan-clause-err c =
    let dv = c.draft.view_is in
    let of = are_of c.args.draft _ _ _ _ dv c.from_vec.ensures c.from_vec-2.ensures c.unwrap_or.ensures in
    let p = err_from_is_err_and c.from_residual.result c.from_residual.ensures.1 in
    let told : c.in_err-plan.field-0.0 ≡ p.0 = cc in
    rw p.1 (λ differs. begin_from_plan c.args.draft _ _ _ p.0 of (c.in_err-plan.ensures.err (λ e. differs (sym told ∙ e)) ∙ ap (λ f. Some f) told))

pub returns-in_err-world-clause-err : goal.returns-in_err-world-clause-err
returns-in_err-world-clause-err c =
    let dv = c.draft.view_is in
    let of = are_of c.args.draft _ _ _ _ dv c.from_vec.ensures c.from_vec-2.ensures c.unwrap_or.ensures in
    let gateways = c.from_vec-gateways.ensures ∙ ap (λ (d : Declared). d.gateways) dv in
    let same = setup_is c.args.draft _ _ _ _ _ _ _ of c.in_ok-plan.ensures.value c.in_ok-writers.ensures (ap (λ (d : Declared). d.writers) dv) gateways in
    let p = err_from_is_err_and c.from_residual-in_err-world.result c.from_residual-in_err-world.ensures.1 in
    let told : c.in_err-world.field-0.0 ≡ p.0 = cc in
    rw p.1 (λ differs. begin_from_world c.args.draft _ _ _ _ p.0 of c.in_ok-plan.ensures.ok same (c.in_err-world.ensures.err (λ e. differs (sym told ∙ e)) ∙ ap (λ f. Some f) told))

pub returns-clause-ok : goal.returns-clause-ok
returns-clause-ok c =
    let dv = c.draft.view_is in
    let of = are_of c.args.draft _ _ _ _ dv c.from_vec.ensures c.from_vec-2.ensures c.unwrap_or.ensures in
    let gateways = c.from_vec-gateways.ensures ∙ ap (λ (d : Declared). d.gateways) dv in
    let same = setup_is c.args.draft _ _ _ _ _ _ _ of c.in_ok-plan.ensures.value c.in_ok-writers.ensures (ap (λ (d : Declared). d.writers) dv) gateways in
    begin_sound c.args.draft _ _ _ _ of c.in_ok-plan.ensures.ok same c.in_ok-world.ensures.ok

pub returns-clause-value : goal.returns-clause-value
returns-clause-value c =
    let dv = c.draft.view_is in
    let of = are_of c.args.draft _ _ _ _ dv c.from_vec.ensures c.from_vec-2.ensures c.unwrap_or.ensures in
    let gateways = c.from_vec-gateways.ensures ∙ ap (λ (d : Declared). d.gateways) dv in
    let same = setup_is c.args.draft _ _ _ _ _ _ _ of c.in_ok-plan.ensures.value c.in_ok-writers.ensures (ap (λ (d : Declared). d.writers) dv) gateways in
    record {
      instruments = ap (λ (d : Declared). d.instrument_labels) dv;
      writers = ap (λ (d : Declared). d.writer_labels) dv;
      gateways = subst (λ (ids : List ℕ). Knows ids c.in_ok-gateway_ids.gateway_ids.places) (c.as_slice.ensures.value ∙ ap (λ (d : Declared). d.gateways) dv) c.in_ok-gateway_ids.ensures;
      world = stands_first c.args.draft _ c.in_ok-world.world same c.in_ok-world.ensures.value;
    }
