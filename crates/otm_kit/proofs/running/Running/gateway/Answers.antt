use Rattle.std.proofs.Common.{◌≡◌, sym, Some}
use Rattle.otm_kit.specs.Declarations.{gateway_place}
use Rattle.otm_kit.proofs.Runnings.{gateway_there}
use Rattle.otm_kit.proofs.running.Running.gateway.Goals as goal

pub returns-in_err-node-clause-none : goal.returns-in_err-node-clause-none
returns-in_err-node-clause-none c =
    rw c.from_residual-in_err-node.ensures (λ d cs r.
    let is : gateway_place d.gateways c.args.id ≡ Some c.in_ok-place.field-0 = sym (c.in_ok-place.ensures d.gateways r.gateways) in
    absurd (gateway_there d cs c.args.self.now c.args.id c.in_ok-place.field-0 r is (sym c.in_err-node.ensures.value)))
