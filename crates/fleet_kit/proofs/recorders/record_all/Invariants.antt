use Rattle.std.proofs.Common.{◌≡◌, ◌≤◌, ◌-◌, [], length, take}
use Rattle.writer_kit.specs.Shared.{first_of}
use Rattle.fleet_kit.specs.Ends.{HasRecorded, LetPass}
use Rattle.fleet_kit.specs.Jobs.{entries}
use Rattle.fleet_kit.specs.Noting.{recorded_by_seat, IsSingle}
use Rattle.fleet_kit.proofs.recorders.record_all.Given as goal

-- the entries so far passed the gate and are recorded, none is noted, and the log is a short one
abbrev pub invariant-loop-done : goal.invariant-loop-done
invariant-loop-done g l = IsSingle l.shared l.seat × (l.log.log ≡ []) × (recorded_by_seat l.shared l.seat ≡ take l.done (entries l.job)) × HasRecorded (first_of l.shared).tally.plan (first_of l.shared).start (take l.done (entries l.job))
    × LetPass (g.G.Gate.passes l.gate) l.number l.done × (l.done ≤ length l.job.entries.items) × (l.log.capacity ≤ 4096)

abbrev pub decreases-loop-done : goal.decreases-loop-done
decreases-loop-done g l = length l.job.entries.items - l.done
