use Rattle.gateway_kit.specs.declared.shared.change.GatewayChange.TheVariants.{Taken}
use Rattle.gateway_kit.proofs.SharedPoints.{adds}
use Rattle.gateway_kit.proofs.shared.SharedGateway.try_take.Goals as goal

pub returns-clause-points : goal.returns-clause-points
returns-clause-points g c = adds c.args.self.now c.args.seat.now c.try_change.new.seat (Taken c.args.export.now) c.try_change.result c.try_change.ensures.ok
