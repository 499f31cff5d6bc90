use Rattle.std.proofs.Common.{◌≡◌, drop}
use Rattle.bytes_kit.specs.MessageFits.{cells_fault}
use Rattle.bytes_kit.proofs.sound.cells_fault.Given as goal

abbrev pub invariant-loop-place : goal.invariant-loop-place
invariant-loop-place l = cells_fault 0 l.entries ≡ cells_fault l.place (drop l.place l.entries)
