use Rattle.std.proofs.Common.{◌≡◌, drop}
use Rattle.std.specs.List.{IsDistinct}
use Rattle.point_kit.specs.ExportFaults.{same_key}
use Rattle.archive_kit.specs.Totals.{add_totals, fit_totals}
use Rattle.archive_kit.proofs.totals.add_totals.Given as goal

abbrev pub invariant-loop-point : goal.invariant-loop-point
invariant-loop-point l =
    (add_totals l.totals.items (drop l.point-index l.points) ≡ add_totals l.fn.totals.items l.points)
    × (fit_totals l.totals.items (drop l.point-index l.points) ≡ fit_totals l.fn.totals.items l.points)
    × IsDistinct same_key l.totals.items
