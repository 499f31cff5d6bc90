use Rattle.gateway_kit.proofs.Recent.{none_recent}
use Rattle.gateway_kit.proofs.incarnation.Incarnation.may_exceed.Goals as goal

pub returns : goal.returns
returns c = λ some. none_recent c.args.number c.self.inside.number c.args.self.now c.self.inside.writer c.self.inside.start c.self.inside.items.items c.self.invariant.sorted c.self.view_is c.self.invariant.up_to some
