use Rattle.gateway_kit.proofs.SharedPoints.{closes}
use Rattle.gateway_kit.proofs.shared.SharedGateway.close.Goals as goal

pub returns-in-Ok-clause-points : goal.returns-in-Ok-clause-points
returns-in-Ok-clause-points g c = closes c.args.self c.args.seat c.in-Ok.gateway c.in-Ok.ensures.ok
