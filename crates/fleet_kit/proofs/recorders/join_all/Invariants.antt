use Rattle.std.proofs.Common.{◌≡◌, [], map, Some}
use Rattle.std.specs.Prelude.{IfNone, IfSome}
use Rattle.schedule_kit.specs.Members.{In}
use Rattle.turn_kit.specs.Public.{mine, joined, seen}
use Rattle.writer_kit.specs.Shared.{IsAt, first_of}
use Rattle.fleet_kit.specs.Halts.{IsFirst}
use Rattle.fleet_kit.specs.Jobs.{entries}
use Rattle.fleet_kit.specs.Noting.{TellsRoom}
use Rattle.fleet_kit.specs.Recorded.{HaveBrought}
use Rattle.fleet_kit.proofs.recorders.join_all.Given as goal

-- the seats so far brought their jobs' entries, where no fault is told
abbrev pub invariant-loop-done : goal.invariant-loop-done
invariant-loop-done l = IsAt l.shared l.main × (mine l.main ≡ []) × IsFirst (λ h. In (Some h) (map (λ d. d.fault) l.yielded)) l.told
    × IfNone l.told (HaveBrought (first_of l.shared).tally (seen l.main) (joined l.main) (map (λ d. entries d.job.now) l.yielded)) × IfSome l.told (TellsRoom l.shared l.main)
