-- The metrics of cells, and which of them are shown.
use Rattle.std.specs.Prelude.{◌≡◌, ℕ, if◌then◌else◌, Bool, List, [], ◌∷◌, ◌++◌, codes}
use Rattle.std.specs.List.{list_any}
use Rattle.std.specs.Ordering.{eq_by_cmp}
use Rattle.std.specs.declared.cmp.Ordering.{Ordering}
use Rattle.attr_kit.specs.Orders.{text_cmp}
use Rattle.page_kit.specs.Groups.{keyed, groups, in_order}
use Rattle.page_kit.specs.Metrics.{metric_of, family, claims}
use Rattle.page_kit.specs.Names.{same}
use Rattle.page_kit.specs.Totals.{KeyedCell, born}
use Rattle.page_kit.specs.contracts.families.RankOrd.TheImpl as ranks
use Rattle.page_kit.specs.contracts.metric.MetricOrd.TheImpl as metrics
use Rattle.page_kit.specs.declared.families.Rank.{Rank}
use Rattle.page_kit.specs.declared.metric.Metric.{Metric}

-- a metric with its cells
abbrev pub Measured : Type 0
Measured = Metric × List KeyedCell

-- by name, unit and kind
abbrev pub metric_cmp : Metric → Metric → Ordering
metric_cmp = (metrics.ghosts).cmp

-- the greater start first, and of these the lesser metric
abbrev pub rank_cmp : Rank → Rank → Ordering
rank_cmp = (ranks.ghosts).cmp

unfoldable pub metrics_of : List KeyedCell → List Measured
metrics_of cells = groups metric_cmp (keyed (λ (e : KeyedCell). metric_of e.0.stream) cells)

abbrev pub rank_of : Measured → Rank
rank_of m = record { born = record { 0 = born m.1 }; metric = m.0 }

-- the metric whose youngest incarnation is the younger comes first: what is held is never forgotten, so it replaces what claims the same names
unfoldable pub ranked : List Measured → List Measured
ranked ms = in_order rank_cmp (keyed rank_of ms)

-- the families of the kit's own
abbrev pub own_names : List (List ℕ)
own_names = codes "kotskhin_conflicts" ∷ codes "kotskhin_keys" ∷ codes "kotskhin_left_out" ∷ codes "kotskhin_newest_seconds" ∷ []

-- one of these names is among those that are claimed
abbrev pub are_claimed : List (List ℕ) → List (List ℕ) → Bool
are_claimed claimed names = list_any (λ name. list_any (same name) claimed) names

abbrev pub is_claimed : List (List ℕ) → Measured → Bool
is_claimed claimed m = are_claimed claimed (claims m.0)

-- those that claim no name that was claimed before, shown or not; and the others
abbrev pub shown_after : List (List ℕ) → List Measured → List Measured
shown_after claimed [] = []
shown_after claimed (m ∷ ms) =
    let rest = shown_after (claims m.0 ++ claimed) ms in
    if is_claimed claimed m then rest else m ∷ rest

abbrev pub hidden_after : List (List ℕ) → List Measured → List Measured
hidden_after claimed [] = []
hidden_after claimed (m ∷ ms) =
    let rest = hidden_after (claims m.0 ++ claimed) ms in
    if is_claimed claimed m then m ∷ rest else rest

-- metrics in the order of their families' names
unfoldable pub by_name : List Measured → List Measured
by_name ms = in_order text_cmp (keyed (λ (m : Measured). family m.0) ms)

-- the metrics that are shown, in the order of their families' names
unfoldable pub shown_metrics : List KeyedCell → List Measured
shown_metrics cells = by_name (shown_after own_names (ranked (metrics_of cells)))

-- those that are not
unfoldable pub hidden_metrics : List KeyedCell → List Measured
hidden_metrics cells = hidden_after own_names (ranked (metrics_of cells))

-- the names, in any order and however often, are those of a set
abbrev pub IsClaimed : List (List ℕ) → List (List ℕ) → Type 0
IsClaimed names set = (name : List ℕ) → list_any (eq_by_cmp text_cmp name) set ≡ list_any (same name) names
