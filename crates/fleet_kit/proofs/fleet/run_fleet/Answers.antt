use Rattle.std.proofs.Common.{◌≡◌, ◌∙◌, subst, sym, None}
use Rattle.fleet_kit.proofs.Answered.{answers_all, exports_apart}
use Rattle.fleet_kit.proofs.Stops.{late_fault, recording_is_late, serving_is_late}
use Rattle.fleet_kit.specs.Checks.{setup_fault}
use Rattle.fleet_kit.specs.Serving.{StopsServing}
use Rattle.fleet_kit.specs.Setups.{AreExportsAt}
use Rattle.fleet_kit.proofs.fleet.run_fleet.Goals as goal

pub gateways_of-requires-clause-apart : goal.gateways_of-requires-clause-apart
gateways_of-requires-clause-apart g c κs lives =
    let none : setup_fault c.args.setup ≡ None = sym c.fault_of.ensures ∙ c.in_default.is in
    exports_apart c.args.setup c.as_slice-2.result.now none (subst (λ es. AreExportsAt c.args.setup es) (sym c.as_slice-2.ensures.value) c.in_ok-exports.ensures.ok)

pub returns-clause-rows : goal.returns-clause-rows
returns-clause-rows g c =
    let none : setup_fault c.args.setup ≡ None = sym c.fault_of.ensures ∙ c.in_default.is in
    λ k v at ask adds w. answers_all c.args.setup c.as_slice-2.result.now c.as_slice.result.now c.in_ok-gateways.gateways.items none
    (subst (λ es. AreExportsAt c.args.setup es) (sym c.as_slice-2.ensures.value) c.in_ok-exports.ensures.ok) c.in_ok-gateways.ensures.ok k v at ask adds w

pub returns-in_err-exports-clause-err : goal.returns-in_err-exports-clause-err
returns-in_err-exports-clause-err g c =
    let s = c.args.setup in
    let passes = g.G.Gate.passes c.args.gate.now in
    let h = c.in_err-exports.field-0.0 in
    let none : setup_fault c.args.setup ≡ None = sym c.fault_of.ensures ∙ c.in_default.is in
    late_fault passes s c.from_residual.result h c.from_residual.ensures.1 none (recording_is_late passes s h c.in_err-exports.ensures.err)

pub returns-in_err-gateways-clause-err : goal.returns-in_err-gateways-clause-err
returns-in_err-gateways-clause-err g c =
    let s = c.args.setup in
    let passes = g.G.Gate.passes c.args.gate.now in
    let h = c.in_err-gateways.field-0.0 in
    let exports = c.as_slice-2.result.now in
    let none : setup_fault c.args.setup ≡ None = sym c.fault_of.ensures ∙ c.in_default.is in
    let are = subst (λ es. AreExportsAt c.args.setup es) (sym c.as_slice-2.ensures.value) c.in_ok-exports.ensures.ok in
    let stops = subst (λ ids. StopsServing c.as_slice-2.result.now ids c.in_err-gateways.field-0.0) c.as_slice.ensures.value c.in_err-gateways.ensures.err in
    late_fault passes s c.from_residual-in_err-gateways.result h c.from_residual-in_err-gateways.ensures.1 none (serving_is_late passes s exports h are c.in_ok-exports.ensures.ends stops)
