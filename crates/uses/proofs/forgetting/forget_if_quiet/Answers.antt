use Rattle.uses.proofs.Forgotten.{others_stay}
use Rattle.uses.proofs.forgetting.forget_if_quiet.Goals as goal

pub returns-in-Some-clause-others : goal.returns-in-Some-clause-others
returns-in-Some-clause-others c = others_stay c.args.writer.now c.args.start c.args.node.now.gateway.points c.forget.new.self.gateway.points c.forget.ensures.value
