use Rattle.std.proofs.Common.{rules}
use Rattle.push_kit.specs.Faults.{push_fault}
use Rattle.push_kit.proofs.Faults.{push_accepted, push_refused, push_short}
use Rattle.push_kit.proofs.periodic.Periodic.gather.Goals as goal

pub returns-in_err-round-clause-err : goal.returns-in_err-round-clause-err
unfolding push_fault
returns-in_err-round-clause-err g c = search (rules, push_refused, c.from_residual.ensures)

pub returns-in_err-round-clause-no_memory : goal.returns-in_err-round-clause-no_memory
unfolding push_fault
returns-in_err-round-clause-no_memory g c = search (rules, push_short, c.from_residual.ensures, c.in_err-round.ensures.no_memory)

pub returns-in_err-copy_out-clause-no_memory : goal.returns-in_err-copy_out-clause-no_memory
unfolding push_fault
returns-in_err-copy_out-clause-no_memory g c = search (rules, push_accepted, c.in_ok-round.ensures.ok)
