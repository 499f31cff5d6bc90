use Rattle.file_kit.proofs.Adopting.{archived_is, unarchived_is}
use Rattle.file_kit.proofs.archive.archived.Goals as goal

pub returns-in-Ok-clause-value : goal.returns-in-Ok-clause-value
returns-in-Ok-clause-value c =
    let points = c.in-Ok.keeper.gateway.points in
    archived_is c.args.ask.now _ points c.if-ask.false c.in-Ok.ensures.value c.archive_of.result c.archive_of.ensures.value

pub returns-in-Ok-clause-err : goal.returns-in-Ok-clause-err
returns-in-Ok-clause-err c =
    let points = c.in-Ok.keeper.gateway.points in
    unarchived_is c.args.ask.now _ points c.if-ask.false c.in-Ok.ensures.value c.archive_of.result c.archive_of.ensures.err
