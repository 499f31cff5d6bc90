use Rattle.std.proofs.Common.{◌≡◌, ◌||◌, ℕ}
use Rattle.std.specs.List.{list_any}
use Rattle.gateway_kit.specs.Walks.{points_left}
use Rattle.point_kit.specs.declared.writer_id.WriterId.{WriterId}
use Rattle.archive_kit.specs.Keeping.{is_named, tells}
use Rattle.archive_kit.specs.Named.{has_either}
use Rattle.archive_kit.proofs.keeper.note_all.Given as goal

abbrev pub invariant-loop-point : goal.invariant-loop-point
invariant-loop-point l =
    (goal.iterator-loop-point).can_next l.point-iterator × (goal.iterator-loop-point).is_finite l.point-iterator
    × (l.names.names ≡ l.initial.names.names)
    × ((w : WriterId) (s : ℕ) → (has_either l.names w s || list_any (λ e. tells w s e.0) (points_left l.point-iterator))
    ≡ (has_either l.initial.names w s || is_named l.gateway.points w s))
