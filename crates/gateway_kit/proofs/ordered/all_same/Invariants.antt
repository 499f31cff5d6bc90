use Rattle.std.proofs.Common.{◌≡◌, map, take}
use Rattle.gateway_kit.proofs.ordered.all_same.Given as goal

-- those before the place are equal
abbrev pub invariant-loop-place : goal.invariant-loop-place
invariant-loop-place g l = map g.T.Keyed.entry (take l.place l.mine) ≡ map g.T.Keyed.entry (take l.place l.theirs)
