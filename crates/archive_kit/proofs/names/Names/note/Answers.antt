use Rattle.archive_kit.specs.Named.{name_in}
use Rattle.archive_kit.proofs.Naming.{nothing_more, too_short}
use Rattle.archive_kit.proofs.names.Names.note.Goals as goal

pub returns-in-None-clause-noted : goal.returns-in-None-clause-noted
returns-in-None-clause-noted c = λ w s. nothing_more _ _ (too_short w s (name_in c.args.told.now) c.in-None.ensures.none)
