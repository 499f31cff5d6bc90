use Rattle.gateway_kit.proofs.AllMoves.{numbered_ok}
use Rattle.gateway_kit.proofs.gateway.Gateway.merge_numbered.Goals as goal

pub returns-clause-numbers : goal.returns-clause-numbers
returns-clause-numbers c = numbered_ok c.merge_under.result c.args.number c.args.self.now c.merge_under.new.self c.requires c.merge_under.ensures.moves
