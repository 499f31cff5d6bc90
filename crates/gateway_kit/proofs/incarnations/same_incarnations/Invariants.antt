use Rattle.std.proofs.Common.{◌≡◌, map, take}
use Rattle.gateway_kit.specs.Incarnations.{keyed_cells}
use Rattle.gateway_kit.proofs.incarnations.same_incarnations.Given as goal

-- those before the place are equal
abbrev pub invariant-loop-place : goal.invariant-loop-place
invariant-loop-place l = map keyed_cells (take l.place l.mine.items) ≡ map keyed_cells (take l.place l.theirs.items)
