use Rattle.gateway_kit.specs.declared.shared.change.GatewayChange.TheVariants.{Taken}
use Rattle.gateway_kit.proofs.SharedPoints.{adds}
use Rattle.gateway_kit.proofs.shared.waits.SharedGateway.take.Goals as goal

pub returns-clause-points : goal.returns-clause-points
returns-clause-points g c = adds c.args.self.now c.args.seat.now c.change.new.seat (Taken c.args.export.now) c.change.result c.change.ensures.ok
