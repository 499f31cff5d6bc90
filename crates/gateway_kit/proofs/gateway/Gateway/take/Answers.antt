use Rattle.gateway_kit.proofs.AllMoves.{left_either}
use Rattle.gateway_kit.proofs.gateway.Gateway.take.Goals as goal

pub returns-clause-numbers : goal.returns-clause-numbers
returns-clause-numbers c = left_either c.take_under.result c.args.self.now c.take_under.new.self c.take_under.ensures.kept c.take_under.ensures.unchanged
