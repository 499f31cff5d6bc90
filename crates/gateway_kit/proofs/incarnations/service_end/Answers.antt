use Rattle.gateway_kit.proofs.Entries.{as_T}
use Rattle.gateway_kit.proofs.ServiceRuns.{ended}
use Rattle.gateway_kit.proofs.incarnations.service_end.Goals as goal

pub returns-in-Err-clause-behind : goal.returns-in-Err-clause-behind
returns-in-Err-clause-behind c = ended c.args.service.now c.args.incarnations.now.items (as_T c.requires) c.in-Err.place c.in-Err.ensures.position
