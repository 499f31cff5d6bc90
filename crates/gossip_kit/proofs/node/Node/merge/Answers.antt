use Rattle.std.proofs.Common.{sym, ap, subst, ◌∙◌}
use Rattle.gossip_kit.specs.Gossip.{Renumbers, next_number}
use Rattle.gossip_kit.specs.Views.{NodeModel}
use Rattle.gossip_kit.proofs.Changes.{renumbers}
use Rattle.gossip_kit.proofs.node.Node.merge.Goals as goal

pub returns-clause-numbers : goal.returns-clause-numbers
returns-clause-numbers c =
    let next = c.next-number.ensures ∙ sym (ap (λ (n : NodeModel). next_number n.change) c.self.view_is) in
    subst (λ (n : NodeModel). Renumbers n c.count.new.self) c.self.view_is
    (renumbers _ _ c.merge_numbered.new.self c.next-number.result c.in_ok-changed.changed next c.in_ok-changed.ensures.numbers c.in_ok-changed.ensures.value c.count.ensures)
