use Rattle.std.proofs.Common.{take, map}
use Rattle.uses.specs.Sharing.{HasMade, change}
use Rattle.uses.proofs.sharing.record_each.Given as goal

abbrev pub invariant-loop-value : goal.invariant-loop-value
invariant-loop-value g l = HasMade l.shared (map (change l.work) (take l.value-index l.work.values.items)) l.seat
