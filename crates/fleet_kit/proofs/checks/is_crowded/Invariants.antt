use Rattle.std.proofs.Common.{◌≡◌, ◌≤◌, length, min, take, sum_by}
use Rattle.fleet_kit.specs.Checks.{jobs_at}
use Rattle.fleet_kit.proofs.checks.is_crowded.Given as goal

abbrev pub invariant-loop-job : goal.invariant-loop-job
invariant-loop-job l = (l.count ≤ l.job-index) × (l.count ≡ length (jobs_at l.place (take l.job-index l.jobs))) × (l.entries ≡ min (sum_by (λ j. length j.entries.items) (jobs_at l.place (take l.job-index l.jobs))) 18446744073709551615)
