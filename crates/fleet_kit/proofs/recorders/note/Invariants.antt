use Rattle.std.proofs.Common.{◌≡◌, ◌+◌, ◌-◌, length}
use Rattle.fleet_kit.specs.Noting.{IsNoted}
use Rattle.fleet_kit.proofs.recorders.note.Given as goal

abbrev pub invariant-loop-place : goal.invariant-loop-place
invariant-loop-place g l = IsNoted (g.G.Gate.passes l.gate) l.number l.job l.from l.log.log × (l.place ≡ l.from + length l.log.log) × (l.log.capacity ≡ l.initial.log.capacity)

abbrev pub decreases-loop-place : goal.decreases-loop-place
decreases-loop-place g l = length l.job.entries.items - l.place
