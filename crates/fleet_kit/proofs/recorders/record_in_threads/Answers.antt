use Rattle.std.proofs.Common.{rules, ◌∙◌, sym, ap}
use Rattle.fleet_kit.proofs.Lists.{same_by_place}
use Rattle.fleet_kit.proofs.recorders.record_in_threads.Goals as goal

pub returns-in-Ok-clause-jobs : goal.returns-in-Ok-clause-jobs
returns-in-Ok-clause-jobs g c = same_by_place (λ d. d.job.now) (λ r. r.job.now) c.in-Ok.dones.items c.args.seats.items (search rules) (λ i d e less. let k = (c.in-Ok.ensures.each i d less).1 in k.call.met.1.0.0 ∙ ap (λ r. r.job.now) (sym (k.job_is e)))

pub returns-in-Ok-clause-numbers : goal.returns-in-Ok-clause-numbers
returns-in-Ok-clause-numbers g c = same_by_place (λ d. d.number) (λ r. r.number) c.in-Ok.dones.items c.args.seats.items (search rules) (λ i d e less. let k = (c.in-Ok.ensures.each i d less).1 in k.call.met.1.0.1 ∙ ap (λ r. r.number) (sym (k.job_is e)))
