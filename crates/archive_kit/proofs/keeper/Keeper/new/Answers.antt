use Rattle.std.proofs.Common.{List, ap, ◌∙◌}
use Rattle.gossip_kit.specs.Views.{NodeModel}
use Rattle.archive_kit.specs.Named.{Name, has_name}
use Rattle.archive_kit.proofs.Skipping.{empty_shown, none_told}
use Rattle.archive_kit.proofs.keeper.Keeper.new.Goals as goal

pub invariant_of-result : goal.invariant_of-result
invariant_of-result c =
    let none = ap (λ (n : NodeModel). n.gateway.points) c.new-2.ensures.value ∙ c.new.ensures.value in
    record {
      stream_is = c.in_ok-tombstones.ensures;
      told = λ w s. ap (λ (l : List Name). has_name l w s) c.new-3.ensures.names ∙ none_told c.new-2.result.gateway.points none w s;
      all_shown = empty_shown c.new-2.result.gateway.points none;
    }
