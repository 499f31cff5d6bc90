use Rattle.std.proofs.Common.{◌≡◌, ◌++◌, map}
use Rattle.gateway_kit.specs.Listing.{incarnations_left}
use Rattle.kit_c.specs.Incarnations.{incarnations_held, told_incarnation}
use Rattle.kit_c.proofs.incarnations.listed.Given as goal

abbrev pub invariant-loop-told : goal.invariant-loop-told
invariant-loop-told l =
    (goal.iterator-loop-told).can_next l.told-iterator × (goal.iterator-loop-told).is_finite l.told-iterator
    × (l.list.items ++ map told_incarnation (incarnations_left l.told-iterator) ≡ incarnations_held l.gateway.points)
