use Rattle.std.proofs.Common.{rules, ◌∙◌, sym, ap}
use Rattle.fleet_kit.proofs.Lists.{same_by_place}
use Rattle.fleet_kit.specs.Jobs.{task_of}
use Rattle.otm_kit.specs.FleetSetups.{task_once_filled}
use Rattle.otm_kit.proofs.fleet_setup.jobs.Goals as goal

pub returns : goal.returns
returns g c =
    same_by_place task_of (task_once_filled c.args.each) c.in_ok-jobs.jobs.items c.in_ok-empty.empty.items (search rules)
    (λ i d e less. let k = (c.in_ok-jobs.ensures.each i d less).1 in k.call.met ∙ ap (task_once_filled c.args.each) (sym (k.job_is e)))
    ∙ c.in_ok-empty.ensures.tasks
