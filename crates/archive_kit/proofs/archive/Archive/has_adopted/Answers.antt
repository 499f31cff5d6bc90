use Rattle.std.proofs.Common.{ap, ◌∙◌}
use Rattle.archive_kit.specs.Archive.{ArchiveState, was_adopted}
use Rattle.archive_kit.specs.Named.{has_name}
use Rattle.archive_kit.proofs.Kept.{adopted_alike}
use Rattle.archive_kit.proofs.archive.Archive.has_adopted.Goals as goal

pub returns : goal.returns
returns c =
    let i = c.self.inside in
    c.has.ensures
    ∙ ap (has_name i.names.names c.args.writer.now) c.told.ensures
    ∙ adopted_alike i.names.names i.tombstones.items c.args.writer.now c.args.start c.self.invariant.0.marked c.self.invariant.1
    ∙ ap (λ (s : ArchiveState). was_adopted s c.args.writer.now c.args.start) c.self.view_is
