use Rattle.otm_kit.proofs.Runnings.{conflicts_none, conflicts_some}
use Rattle.otm_kit.proofs.running.Running.conflicts.Goals as goal

pub returns-in_default : goal.returns-in_default
returns-in_default c = λ d cs r. conflicts_none d cs c.args.gateway (c.in_default.ensures.none d cs r)

pub returns : goal.returns
returns c = λ d cs r. conflicts_some d cs c.args.gateway c.in-Some.gateway.now.points _ (c.in-Some.ensures.some d cs r) c.in_ok-conflicts_line.ensures
