use Rattle.otm_kit.proofs.Runnings.{same_first, same_second, same_some}
use Rattle.otm_kit.proofs.running.Running.same.Goals as goal

pub returns-in_default : goal.returns-in_default
returns-in_default c = λ d cs r. same_first d cs c.args.one c.args.other (c.in_default.ensures.none d cs r)

pub returns-in_default-gateway : goal.returns-in_default-gateway
returns-in_default-gateway c = λ d cs r. same_second d cs c.args.one c.args.other c.in-Some.one.now.points (c.in-Some.ensures.some d cs r) (c.in_default-gateway.ensures.none d cs r)

pub returns : goal.returns
returns c = λ d cs r. same_some d cs c.args.one c.args.other c.in-Some.one.now.points c.in-Some-gateway.other.now.points _ (c.in-Some.ensures.some d cs r) (c.in-Some-gateway.ensures.some d cs r) c.in_ok-same_line.ensures
