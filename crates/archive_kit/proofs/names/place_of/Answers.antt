use Rattle.archive_kit.proofs.Naming.{stored_is}
use Rattle.archive_kit.proofs.names.place_of.Goals as goal

pub returns-clause-place : goal.returns-clause-place
returns-clause-place c = stored_is c.insert_full.new.self.keys c.in_ok-place.place c.in_ok-try_copy.field-0 c.args.service.now c.in_ok-place.ensures.stored c.in_ok-try_copy.ensures.ok
