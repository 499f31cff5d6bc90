use Rattle.std.proofs.Common.{◌≡◌, take, map}
use Rattle.uses.specs.Sharing.{noted}
use Rattle.uses.proofs.sharing.note_all.Given as goal

abbrev pub invariant-loop-value : goal.invariant-loop-value
invariant-loop-value l = l.recorder.log ≡ map (noted l.work) (take l.value-index l.work.values.items)
