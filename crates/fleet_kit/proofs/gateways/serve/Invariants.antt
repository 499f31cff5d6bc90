use Rattle.std.proofs.Common.{◌≡◌}
use Rattle.crossbeam_channel.specs.Claims.{view, IsSeatAt}
use Rattle.crossbeam_channel.specs.Ends.{receives_on}
use Rattle.fleet_kit.specs.Serving.{IsServed}
use Rattle.fleet_kit.proofs.gateways.serve.Given as goal

abbrev pub invariant-loop : goal.invariant-loop
invariant-loop g l = IsSeatAt (receives_on l.places) l.pass × ((view l.pass).sent ≡ (view l.initial.pass).sent) × IsServed l.exports l.fn.id (view l.pass).got l.gateway
