use Rattle.gateway_kit.proofs.AllMoves.{left_either}
use Rattle.gateway_kit.proofs.gateway.Gateway.merge.Goals as goal

pub returns-clause-numbers : goal.returns-clause-numbers
returns-clause-numbers c = left_either c.merge_under.result c.args.self.now c.merge_under.new.self c.merge_under.ensures.kept c.merge_under.ensures.unchanged
