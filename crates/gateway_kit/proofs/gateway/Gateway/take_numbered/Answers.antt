use Rattle.gateway_kit.proofs.AllMoves.{numbered_ok}
use Rattle.gateway_kit.proofs.gateway.Gateway.take_numbered.Goals as goal

pub returns-clause-numbers : goal.returns-clause-numbers
returns-clause-numbers c = numbered_ok c.take_under.result c.args.number c.args.self.now c.take_under.new.self c.requires c.take_under.ensures.moves
