use Rattle.std.proofs.Common.{◌≡◌, ◌<◌, ℕ, [], All, map, take, slice_get, Some}
use Rattle.rollup_kit.specs.Fleets.{entries_of}
use Rattle.schedule_kit.specs.Members.{In}
use Rattle.turn_kit.specs.Public.{mine, joined}
use Rattle.writer_kit.specs.Shared.{IsAt}
use Rattle.fleet_kit.proofs.Lists.{entries_in}
use Rattle.fleet_kit.specs.Jobs.{task_of}
use Rattle.fleet_kit.specs.Noting.{recorded_by_seat, IsSingle}
use Rattle.fleet_kit.specs.declared.setup.Job.{Job}
use Rattle.fleet_kit.proofs.recorders.seats_for.Given as goal

abbrev pub invariant-loop-number : goal.invariant-loop-number
invariant-loop-number g l = IsAt l.shared l.main × (mine l.main ≡ mine l.initial.main) × (joined l.main ≡ joined l.initial.main) × All (λ r. IsSingle l.shared r.seat) l.seats.items × All (λ r. recorded_by_seat l.shared r.seat ≡ []) l.seats.items
    × (entries_in (λ r. r.job.now) l.seats.items ≡ entries_of (map task_of (take l.number l.jobs)) l.place)
    × All (λ r. (slice_get l.jobs r.number ≡ Some r.job.now) × (r.job.now.writer ≡ l.place)) l.seats.items
    × ((n : ℕ) (j : Job) → n < l.number → slice_get l.jobs n ≡ Some j → j.writer ≡ l.place → In n (map (λ r. r.number) l.seats.items))
