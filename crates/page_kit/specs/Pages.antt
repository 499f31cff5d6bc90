-- The page in each of its two formats.
use Rattle.std.specs.Prelude.{ℕ, List}
use Rattle.page_kit.specs.Page.{page}
use Rattle.page_kit.specs.Totals.{KeyedCell}
use Rattle.page_kit.specs.declared.text.Format.TheVariants.{OpenMetrics, Prometheus}

-- OpenMetrics 1.0
abbrev pub openmetrics_page : List KeyedCell → List ℕ
openmetrics_page = page OpenMetrics

-- Prometheus' text format 0.0.4
abbrev pub prometheus_page : List KeyedCell → List ℕ
prometheus_page = page Prometheus
