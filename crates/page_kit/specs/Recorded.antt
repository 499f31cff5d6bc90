-- What the numbers of a page say of what was recorded.
use Rattle.std.specs.Prelude.{◌≡◌, ℕ, ℤ, ◌&&◌, int_le, Bool, true, false, IsTrue, List, map, filter, length, count_by, Option, Some, None}
use Rattle.std.specs.List.{list_any}
use Rattle.std.specs.Ordering.{eq_by_cmp}
use Rattle.agg_kit.specs.Entries.{Entry}
use Rattle.agg_kit.specs.Payloads.{total}
use Rattle.gateway_kit.specs.Walks.{is_of}
use Rattle.plan_kit.specs.Plans.{is_proper, stream_of}
use Rattle.point_kit.specs.declared.key.Key.{Key}
use Rattle.point_kit.specs.declared.stream.Stream.{Stream}
use Rattle.rollup_kit.specs.Writers.{Writers, ArePlans, AreTold, rounding, entries_fed}
use Rattle.schedule_kit.specs.Deeds.{Deed, Holder, AreLawful}
use Rattle.schedule_kit.specs.Members.{In}
use Rattle.schedule_kit.specs.Rounds.{state}
use Rattle.schedule_kit.specs.Rows.{values_fed}
use Rattle.schedule_kit.specs.Taken.{taken_collections, recorded_up_to, incarnations}
use Rattle.page_kit.specs.Bounds.{values_up_to, within_room}
use Rattle.page_kit.specs.Families.{Measured, metric_cmp, shown_metrics}
use Rattle.page_kit.specs.Labels.{labels_cmp, row_labels}
use Rattle.page_kit.specs.Metrics.{metric_of}
use Rattle.page_kit.specs.Page.{asked_cells, is_left_in, left_in}
use Rattle.page_kit.specs.Rows.{row_bounds, rows}
use Rattle.page_kit.specs.Totals.{KeyedCell, is_conflict, sum_of, count_of}
use Rattle.page_kit.specs.declared.labels.Label.{Label}
use Rattle.page_kit.specs.declared.metric.Kind.{Kind}
use Rattle.page_kit.specs.declared.metric.Kind.TheVariants.{Updown, Counter, Gauge, Histogram}
use Rattle.page_kit.specs.declared.metric.Metric.{Metric}

-- the bounds of each histogram of the plans rise
abbrev pub AreProper : Writers → Type 0
AreProper s = (w i : ℕ) (stream : Stream) → stream_of (s.plan w) i ≡ Some stream → IsTrue (is_proper stream.shape)

-- what the writers recorded in each incarnation up to its newest collection that the gateway took: each value under the key that it feeds
abbrev pub recordings : Writers → List (Deed Entry) → Holder → List (Key × ℤ)
recordings s ds h = values_fed (rounding s) (recorded_up_to s.starts ds h) (incarnations s.starts ds) (entries_fed s)

-- a key is of the service, where one is asked for
abbrev pub is_asked : Option (List ℕ) → Key → Bool
is_asked None key = true
is_asked (Some service) key = is_of service key.writer

-- a key goes to the row of a metric that has these labels
abbrev pub goes_to : Option (List ℕ) → Option (List ℕ) → Metric → List Label → Key → Bool
goes_to service but m labels key =
    is_asked service key
    && (is_left_in but key && (eq_by_cmp metric_cmp m (metric_of key.stream) && eq_by_cmp labels_cmp labels (row_labels key)))

-- the values that were recorded under the keys of a row
abbrev pub row_values : Option (List ℕ) → Option (List ℕ) → Metric → List Label → List (Key × ℤ) → List ℤ
row_values service but m labels values = map (λ v. v.1) (filter (λ v. goes_to service but m labels v.0) values)

-- what the numbers of a row are, of a sum and of a histogram: the values added up, how many they are, and how many are
-- not above each bound
abbrev pub AreNumbers : Kind → List ℤ → List KeyedCell → List ℤ → Type 0
AreNumbers Updown bounds cells values = sum_of cells ≡ total values
AreNumbers Counter bounds cells values = sum_of cells ≡ total values
AreNumbers Gauge bounds cells values = Unit {0}
AreNumbers Histogram bounds cells values =
    (sum_of cells ≡ total values) × (count_of cells ≡ length values)
    × ((bound : ℤ) → In bound bounds → values_up_to bound cells ≡ within_room (count_by (λ v. int_le v bound) values))

-- a row is shown, and its numbers are those of the values
pub record IsRecorded (m : Measured) (r : List Label × List KeyedCell) (values : List ℤ) : Type 0 where
  pub shown : list_any is_conflict r.1 ≡ false
  pub numbers : AreNumbers m.0.kind (row_bounds m.1 r.1) r.1 values

-- Where no two writers share an identity, the numbers of each row of each family on a gateway's page are those of what was
-- recorded under the row's keys, of whatever service the page is, and whatever scope it leaves out.
abbrev pub NumbersAreRecorded : Type 0
NumbersAreRecorded = (s : Writers) → ArePlans s → AreProper s → AreTold s
    → (fits : ℕ → List Entry → Entry → Bool) (gateways : ℕ) (ds : List (Deed Entry)) → AreLawful fits s.starts gateways ds
    → (h : Holder) (service but : Option (List ℕ)) (m : Measured)
    → In m (shown_metrics (left_in but (asked_cells service (state (rounding s) (taken_collections s.starts ds h)))))
    → (r : List Label × List KeyedCell) → In r (rows m.1)
    → IsRecorded m r (row_values service but m.0 r.0 (recordings s ds h))
