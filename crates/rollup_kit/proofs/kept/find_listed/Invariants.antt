use Rattle.std.proofs.Common.{filter, take}
use Rattle.attr_kit.specs.AllowLists.{is_listed}
use Rattle.rollup_kit.specs.Places.{Show}
use Rattle.rollup_kit.proofs.kept.find_listed.Given as goal

abbrev pub invariant-loop-place : goal.invariant-loop-place
invariant-loop-place l = Show l.pairs l.places.items (filter (λ p. is_listed l.list p.0) (take l.place l.pairs))
