use Rattle.gateway_kit.proofs.SharedPoints.{sees}
use Rattle.gateway_kit.proofs.shared.waits.SharedGateway.look.Goals as goal

pub returns-clause-points : goal.returns-clause-points
returns-clause-points g c = sees c.args.self.now c.args.seat.now c.look.new.seat (λ v. g.T.Look.answers c.args.look v c.look.result) c.look.ensures.value
