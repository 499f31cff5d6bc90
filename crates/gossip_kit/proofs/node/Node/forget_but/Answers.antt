use Rattle.std.proofs.Common.{Bool, not, ap, ◌∙◌}
use Rattle.std.specs.FinMap.{retain_keys}
use Rattle.point_kit.specs.declared.key.Key.{Key}
use Rattle.gateway_kit.specs.Queries.{is_of_other_stream}
use Rattle.gossip_kit.specs.Views.{NodeModel}
use Rattle.gossip_kit.proofs.Forgetting.{acknowledged_left, carried_left}
use Rattle.gossip_kit.proofs.node.Node.forget_but.Goals as goal

pub returns-clause-acknowledged : goal.returns-clause-acknowledged
returns-clause-acknowledged c =
    let new : NodeModel = record { gateway = c.forget_but.new.self; change = c.self.inside.change; acked = c.self.inside.books } in
    let kept : Key → Bool = λ k. not (is_of_other_stream c.args.writer.now c.args.start c.args.stream.now k) in
    acknowledged_left kept c.args.self.now new
    (c.forget_but.ensures.value ∙ ap (λ (n : NodeModel). retain_keys n.gateway.points kept) c.self.view_is)
    (c.forget_but.ensures.numbers ∙ ap (λ (n : NodeModel). retain_keys n.gateway.numbers kept) c.self.view_is)
    (ap (λ (n : NodeModel). n.acked) c.self.view_is)

pub returns-clause-carried : goal.returns-clause-carried
returns-clause-carried c =
    let new : NodeModel = record { gateway = c.forget_but.new.self; change = c.self.inside.change; acked = c.self.inside.books } in
    let kept : Key → Bool = λ k. not (is_of_other_stream c.args.writer.now c.args.start c.args.stream.now k) in
    carried_left kept c.args.self.now new
    (c.forget_but.ensures.value ∙ ap (λ (n : NodeModel). retain_keys n.gateway.points kept) c.self.view_is)
    (c.forget_but.ensures.numbers ∙ ap (λ (n : NodeModel). retain_keys n.gateway.numbers kept) c.self.view_is)
    (ap (λ (n : NodeModel). n.acked) c.self.view_is)
    (ap (λ (n : NodeModel). n.change) c.self.view_is)
