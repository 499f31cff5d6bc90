-- The page of a gateway's points.
use Rattle.std.specs.Prelude.{ℕ, Bool, true, ◌+◌, ◌/◌, ◌%◌, ◌^◌, not, List, [], ◌∷◌, ◌++◌, map, filter, length, bytes_eq, codes, Option, Some, None}
use Rattle.std.specs.FinMap.{entries}
use Rattle.std.specs.Fmt.{decimal}
use Rattle.std.specs.List.{flat_map}
use Rattle.gateway_kit.specs.Walks.{is_of}
use Rattle.point_kit.specs.Exports.{Points}
use Rattle.point_kit.specs.declared.key.Key.{Key}
use Rattle.page_kit.specs.Families.{Measured, shown_metrics, hidden_metrics}
use Rattle.page_kit.specs.Groups.{keyed, groups}
use Rattle.page_kit.specs.Labels.{labels_cmp, service_labels, metric_labels, conflict_labels}
use Rattle.page_kit.specs.Lines.{sample, metadata}
use Rattle.page_kit.specs.Rows.{family_text}
use Rattle.page_kit.specs.Totals.{KeyedCell, is_conflict, latest}
use Rattle.page_kit.specs.declared.labels.Label.{Label}
use Rattle.page_kit.specs.declared.metric.Kind.TheVariants.{Gauge}
use Rattle.page_kit.specs.declared.text.Format.{Format}
use Rattle.page_kit.specs.declared.text.Format.TheVariants.{OpenMetrics, Prometheus}

-- the keys that hold a conflict by their labels, all keys by those of their services, and how many keys each metric has by those that tell it
unfoldable pub conflict_rows : List KeyedCell → List (List Label × List KeyedCell)
conflict_rows cells = groups labels_cmp (keyed (λ (e : KeyedCell). conflict_labels e.0) (filter is_conflict cells))

unfoldable pub service_rows : List KeyedCell → List (List Label × List KeyedCell)
service_rows cells = groups labels_cmp (keyed (λ (e : KeyedCell). service_labels e.0) cells)

unfoldable pub left_out_rows : List Measured → List (List Label × List ℕ)
left_out_rows hidden = groups labels_cmp (map (λ (m : Measured). (metric_labels m.0, length m.1)) hidden)

-- how many keys hold a conflict, by metric, scope and service
unfoldable pub conflicts_text : Format → List KeyedCell → List ℕ
conflicts_text format cells =
    metadata format (codes "kotskhin_conflicts") Gauge [] (codes "Keys that hold a conflict. A row that has one is not shown.")
    ++ flat_map (λ g. sample (codes "kotskhin_conflicts") g.0 (decimal (length g.1))) (conflict_rows cells)

-- how many keys are held
unfoldable pub keys_text : Format → List KeyedCell → List ℕ
keys_text format cells =
    metadata format (codes "kotskhin_keys") Gauge [] (codes "Keys that are held.") ++ sample (codes "kotskhin_keys") [] (decimal (length cells))

-- how many keys each metric has that is not shown
unfoldable pub left_out_text : Format → List Measured → List ℕ
left_out_text format hidden =
    metadata format (codes "kotskhin_left_out") Gauge [] (codes "Keys of metrics that are not shown, since another metric has one of their names.")
    ++ flat_map (λ g. flat_map (λ n. sample (codes "kotskhin_left_out") g.0 (decimal n)) g.1) (left_out_rows hidden)

-- a digit of a number, by its place
abbrev pub digit : ℕ → ℕ → ℕ
digit n place = 48 + n / 10 ^ place % 10

-- nanoseconds as seconds
unfoldable pub seconds : ℕ → List ℕ
seconds time = decimal (time / 10 ^ 9) ++ 46 ∷ map (digit time) (8 ∷ 7 ∷ 6 ∷ 5 ∷ 4 ∷ 3 ∷ 2 ∷ 1 ∷ 0 ∷ [])

-- when the newest point of each service came
unfoldable pub newest_text : Format → List KeyedCell → List ℕ
newest_text format cells =
    metadata format (codes "kotskhin_newest_seconds") Gauge (codes "seconds") (codes "Time of the newest point of a service, since the Unix epoch.")
    ++ flat_map (λ g. sample (codes "kotskhin_newest_seconds") g.0 (seconds (latest g.1))) (service_rows cells)

-- the families of the kit's own
unfoldable pub own_text : Format → List KeyedCell → List Measured → List ℕ
own_text format cells hidden = conflicts_text format cells ++ (keys_text format cells ++ (left_out_text format hidden ++ newest_text format cells))

-- what ends a page
abbrev pub last_line : Format → List ℕ
last_line OpenMetrics = codes "# EOF\n"
last_line Prometheus = []

-- the cells of a service, where one is asked for, else all
abbrev pub asked_cells : Option (List ℕ) → Points → List KeyedCell
asked_cells None points = entries points
asked_cells (Some service) points = filter (λ e. is_of service e.0.writer) (entries points)

-- whether a key is left in: its scope is not the one that is left out, where one is
abbrev pub is_left_in : Option (List ℕ) → Key → Bool
is_left_in None key = true
is_left_in (Some scope) key = not (bytes_eq key.stream.scope scope)

-- the cells that are left in: all, where no scope is left out
abbrev pub left_in : Option (List ℕ) → List KeyedCell → List KeyedCell
left_in None cells = cells
left_in (Some scope) cells = filter (λ e. is_left_in (Some scope) e.0) cells

-- the page of cells: the families of the metrics that are shown, in the order of their names, and the kit's own
unfoldable pub page : Format → List KeyedCell → List ℕ
page format cells = flat_map (family_text format) (shown_metrics cells) ++ (own_text format cells (hidden_metrics cells) ++ last_line format)
