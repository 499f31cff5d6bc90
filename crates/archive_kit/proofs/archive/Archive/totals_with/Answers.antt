use Rattle.std.proofs.Common.{sym, subst}
use Rattle.std.specs.List.{IsDistinct}
use Rattle.point_kit.specs.ExportFaults.{same_key}
use Rattle.archive_kit.proofs.Kept.{totals_apart}
use Rattle.archive_kit.proofs.archive.Archive.totals_with.Goals as goal

pub add_totals-requires : goal.add_totals-requires
add_totals-requires c = subst (IsDistinct same_key) (sym c.in_ok-totals.ensures.value) (totals_apart c.self.invariant.0)
