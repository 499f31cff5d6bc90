-- Families of two pages that are to be alike.
use Rattle.std.specs.Prelude.{◌≡◌, ℕ, List, Option}
use Rattle.archive_world_kit.specs.Steps.{History, shown_by}
use Rattle.page_kit.specs.Families.{Measured, shown_metrics}
use Rattle.page_kit.specs.Metrics.{kind_of}
use Rattle.page_kit.specs.Page.{asked_cells, left_in}
use Rattle.page_kit.specs.Rows.{row_bounds}
use Rattle.page_kit.specs.Totals.{KeyedCell}
use Rattle.point_kit.specs.declared.shape.Shape.{Shape}
use Rattle.point_kit.specs.declared.shape.Shape.TheVariants as shapes
use Rattle.rollup_kit.specs.Rollups.{AddsUp}
use Rattle.schedule_kit.specs.Members.{In}

-- one metric, of streams that add up, has a family on the page of what one node shows and on that of another
pub record OnBoth {N : Type 0} (h : History N) (g k : ℕ) (service but : Option (List ℕ)) (shape : Shape) (m n : Measured) : Type 0 where
  pub here : In m (shown_metrics (left_in but (asked_cells service (shown_by h g))))
  pub there : In n (shown_metrics (left_in but (asked_cells service (shown_by h k))))
  pub metric : m.0 ≡ n.0
  pub kind : m.0.kind ≡ kind_of shape
  pub adds : AddsUp shape

-- of a histogram two rows have the same bounds
abbrev pub HaveOneBounds : Shape → Measured → Measured → List KeyedCell → List KeyedCell → Type 0
HaveOneBounds (shapes.Sum monotonic) m n cells others = Unit {0}
HaveOneBounds shapes.Gauge m n cells others = Unit {0}
HaveOneBounds (shapes.Histogram bounds) m n cells others = row_bounds m.1 cells ≡ row_bounds n.1 others
