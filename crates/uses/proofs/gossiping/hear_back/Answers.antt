use Rattle.std.proofs.Common.{◌≡◌, IfSome, Option, subst}
use Rattle.std.specs.FinMap.{empty}
use Rattle.gossip_kit.specs.Views.{MessageModel}
use Rattle.uses.proofs.Gossiped.{kept_all}
use Rattle.uses.proofs.gossiping.hear_back.Goals as goal

pub returns-in_ok-hand : goal.returns-in_ok-hand
returns-in_ok-hand c =
    kept_all c.args.node.now.gateway.points c.in-Some.answer.points c.hand.new.self.gateway.points c.in_ok-hand.ensures.value
    (subst (λ (o : Option MessageModel). IfSome o (λ m. m.points ≡ empty)) c.in-Some.is c.requires)
