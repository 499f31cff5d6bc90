use Rattle.std.proofs.Common.{◌≡◌, ◌++◌, All, map, replicate}
use Rattle.otm_kit.specs.FleetSetups.{HasRoom, fleet_task, task_once_filled}
use Rattle.otm_kit.proofs.fleet_setup.add_empty_jobs.Given as goal

abbrev pub invariant-loop-recorder : goal.invariant-loop-recorder
invariant-loop-recorder l =
    (map (task_once_filled l.each) l.jobs.items ≡ map (task_once_filled l.each) l.fn.jobs.items ++ replicate l._recorder (fleet_task l.each l.writer))
    × All (HasRoom l.each) l.jobs.items
