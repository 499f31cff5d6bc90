use Rattle.gateway_kit.specs.declared.shared.change.GatewayChange.TheVariants.{Merged}
use Rattle.gateway_kit.proofs.SharedPoints.{adds}
use Rattle.gateway_kit.proofs.shared.waits.SharedGateway.merge.Goals as goal

pub returns-clause-points : goal.returns-clause-points
returns-clause-points g c = adds c.args.self.now c.args.seat.now c.change.new.seat (Merged c.args.other.now) c.change.result c.change.ensures.ok
