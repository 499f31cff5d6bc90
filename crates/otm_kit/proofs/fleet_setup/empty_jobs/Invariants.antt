use Rattle.std.proofs.Common.{◌≡◌, All, map}
use Rattle.otm_kit.specs.FleetSetups.{HasRoom, fleet_tasks, task_once_filled}
use Rattle.otm_kit.proofs.fleet_setup.empty_jobs.Given as goal

abbrev pub invariant-loop-writer : goal.invariant-loop-writer
invariant-loop-writer l = (map (task_once_filled l.each) l.jobs.items ≡ fleet_tasks l.writer l.recorders l.each) × All (HasRoom l.each) l.jobs.items
