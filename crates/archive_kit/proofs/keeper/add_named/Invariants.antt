use Rattle.std.proofs.Common.{◌≡◌, ◌||◌, ◌&&◌}
use Rattle.std.specs.List.{list_any}
use Rattle.gateway_kit.specs.Listing.{incarnations_left}
use Rattle.gateway_kit.specs.Queries.{is_of_incarnation}
use Rattle.point_kit.specs.declared.key.Key.{Key}
use Rattle.archive_kit.specs.Keeping.{is_held, is_of_any}
use Rattle.archive_kit.specs.Named.{has_either}
use Rattle.archive_kit.proofs.keeper.add_named.Given as goal

abbrev pub invariant-loop-held : goal.invariant-loop-held
invariant-loop-held l =
    (goal.iterator-loop-held).can_next l.held-iterator × (goal.iterator-loop-held).is_finite l.held-iterator
    × ((k : Key) → (is_of_any l.gone.items k || (has_either l.names k.writer k.start && list_any (λ h. is_of_incarnation h.writer h.start k) (incarnations_left l.held-iterator)))
    ≡ (is_of_any l.initial.gone.items k || (has_either l.names k.writer k.start && is_held l.gateway.points k)))
