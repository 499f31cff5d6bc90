use Rattle.std.proofs.Common.{◌≡◌, map, take}
use Rattle.plan_kit.specs.Kept.{kept_instrument}
use Rattle.plan_kit.proofs.finish.places_of.Given as goal

abbrev pub invariant-loop-place : goal.invariant-loop-place
invariant-loop-place l = l.places.items ≡ map (kept_instrument l.instruments) (take l.place l.instruments)
