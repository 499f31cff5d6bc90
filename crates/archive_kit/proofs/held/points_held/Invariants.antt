use Rattle.std.proofs.Common.{◌≡◌, ℕ, take}
use Rattle.gateway_kit.specs.Queries.{part_points}
use Rattle.point_kit.specs.declared.writer_id.WriterId.{WriterId}
use Rattle.archive_kit.specs.Archive.{points_held}
use Rattle.archive_kit.proofs.held.points_held.Given as goal

abbrev pub invariant-loop-item : goal.invariant-loop-item
invariant-loop-item l = (writer : WriterId) (start : ℕ) → l.points.items ≡ points_held (part_points writer start (take l.item-index l.items))
