use Rattle.std.proofs.Common.{◌≡◌, drop}
use Rattle.std.specs.List.{list_any}
use Rattle.gateway_kit.specs.Walks.{keyed_cell_of_ref}
use Rattle.page_kit.specs.Totals.{is_conflict}
use Rattle.page_kit.proofs.totals.has_conflict.Given as goal

abbrev pub invariant-loop-point : goal.invariant-loop-point
invariant-loop-point l = list_any (λ p. is_conflict (keyed_cell_of_ref p)) (drop l.point-index l.points) ≡ list_any (λ p. is_conflict (keyed_cell_of_ref p)) l.points
