use Rattle.crossbeam_channel.specs.Claims.{view}
use Rattle.fleet_kit.proofs.Served.{gateway_lacks}
use Rattle.fleet_kit.proofs.gateways.serve_gateway.Goals as goal

pub returns-clause-err : goal.returns-clause-err
returns-clause-err g c =
    let p = c.args.post in
    gateway_lacks c.args.exports.now c.requires.apart p.gateway p.id (view p.pass).sent c.in-Some.writer p.unsent c.in_ok-gateway.gateway c.in_ok-gateway.ensures.ok c.requires.posted.1 c.in-Some.is
