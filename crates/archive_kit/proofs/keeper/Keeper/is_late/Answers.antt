use Rattle.std.proofs.Common.{ap, ◌∙◌}
use Rattle.gossip_kit.specs.Views.{NodeModel}
use Rattle.archive_kit.specs.Keeping.{is_named}
use Rattle.archive_kit.specs.Named.{has_name}
use Rattle.archive_kit.proofs.keeper.Keeper.is_late.Goals as goal

pub returns : goal.returns
returns c =
    c.has.ensures
    ∙ (λ i. has_name c.self.inside.names.names (c.writer.ensures.value i) (c.start.ensures.value i))
    ∙ c.self.invariant.told c.args.export.now.writer c.args.export.now.start
    ∙ ap (λ (n : NodeModel). is_named n.gateway.points c.args.export.now.writer c.args.export.now.start) c.self.view_is
