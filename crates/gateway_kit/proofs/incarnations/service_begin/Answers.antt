use Rattle.gateway_kit.proofs.Entries.{as_T}
use Rattle.gateway_kit.proofs.ServiceRuns.{begun}
use Rattle.gateway_kit.proofs.incarnations.service_begin.Goals as goal

pub returns-in-Err : goal.returns-in-Err
returns-in-Err c = begun c.args.service.now c.args.incarnations.now.items (as_T c.requires) c.in-Err.place c.in-Err.ensures.position
