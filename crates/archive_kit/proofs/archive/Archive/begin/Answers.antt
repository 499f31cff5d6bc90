use Rattle.std.proofs.Common.{sym, ap, ◌∙◌}
use Rattle.std.specs.List.{list_any}
use Rattle.point_kit.specs.declared.export_point.ExportPoint.{ExportPoint}
use Rattle.archive_kit.specs.Named.{has_name}
use Rattle.archive_kit.specs.Tombstones.{incarnation_attrs, set_eq}
use Rattle.archive_kit.proofs.Kept.{begun}
use Rattle.archive_kit.proofs.archive.Archive.begin.Goals as goal

pub invariant_of-result : goal.invariant_of-result
invariant_of-result c = (
  rw (c.new.ensures.items, c.new-2.ensures.items) (begun c.in_ok-tombstones.field-0 c.args.start c.in_ok-tombstones.ensures),
  λ w s. ap (λ l. has_name l w s) c.new-3.ensures.names ∙ ap (list_any (λ (p : ExportPoint). set_eq p.attrs (incarnation_attrs w s))) (sym c.new-2.ensures.items),
)
