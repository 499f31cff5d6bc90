use Rattle.gateway_kit.proofs.SharedPoints.{answers}
use Rattle.gateway_kit.proofs.shared.SharedGateway.try_look.Goals as goal

pub returns-clause-points : goal.returns-clause-points
returns-clause-points g c = answers c.args.self.now c.args.seat.now c.try_look.new.seat (λ r v. g.T.Look.answers c.args.look v r) c.try_look.result c.try_look.ensures.ok
