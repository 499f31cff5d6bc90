-- The bounds of histograms, and how many values are not above one.
use Rattle.std.specs.Prelude.{◌≡◌, ℕ, ℤ, pos, ◌+◌, ◌-◌, ◌^◌, ◌&&◌, min, int_le, if◌then◌else◌, Bool, List, [], ◌∷◌, filter, fold, Option, Some, None}
use Rattle.std.specs.BTreeMap.{is_at}
use Rattle.std.specs.BTreeSet.{insert_key}
use Rattle.std.specs.Ordering.{eq_by_cmp, int_cmp}
use Rattle.std.specs.List.{list_any, list_all, sum_by}
use Rattle.std.specs.Map.{lookup}
use Rattle.std.specs.Option.{option_map_or}
use Rattle.attr_kit.specs.Orders.{text_cmp}
use Rattle.point_kit.specs.Orders.{bounds_of}
use Rattle.point_kit.specs.declared.cell.Held.{Held}
use Rattle.point_kit.specs.declared.cell.Held.TheVariants.{One, Conflict}
use Rattle.point_kit.specs.declared.payload.Payload.{Payload}
use Rattle.point_kit.specs.declared.payload.Payload.TheVariants as payloads
use Rattle.page_kit.specs.Names.{same}
use Rattle.page_kit.specs.Totals.{KeyedCell}
use Rattle.page_kit.specs.declared.metric.Kind.{Kind}
use Rattle.page_kit.specs.declared.metric.Kind.TheVariants.{Updown, Counter, Gauge, Histogram}

abbrev pub bounds_in : KeyedCell → List ℤ
bounds_in e = bounds_of e.0.stream.shape

abbrev pub buckets_in : Held Payload → List ℕ
buckets_in (One (payloads.Sum sum)) = []
buckets_in (One (payloads.Gauge value)) = []
buckets_in (One (payloads.Hist count sum buckets range)) = buckets
buckets_in Conflict = []

-- from 0 to 2 ^ 53: beside bounds below 0 a sum is forbidden, and beyond two numbers may be one double
abbrev pub is_shown : ℤ → Bool
is_shown bound = int_le (pos 0) bound && int_le bound (pos (2 ^ 53))

abbrev pub has_bound : ℤ → KeyedCell → Bool
has_bound bound e = list_any (eq_by_cmp int_cmp bound) (bounds_in e)

-- numbers in order, each once
abbrev pub rising : List ℤ → List ℤ
rising bounds = fold (insert_key int_cmp) [] bounds

-- the bounds that all cells have, rising, of those that are shown
unfoldable pub shared_bounds : List KeyedCell → List ℤ
shared_bounds [] = []
shared_bounds (e ∷ es) = filter (λ bound. is_shown bound && list_all (has_bound bound) (e ∷ es)) (rising (bounds_in e))

-- those of the cells of a service
unfoldable pub service_bounds : List KeyedCell → List ℕ → List ℤ
service_bounds cells service = shared_bounds (filter (λ e. same service e.0.writer.service) cells)

-- the counts of the buckets whose own bound is at most this one
abbrev pub count_up_to : ℤ → List ℤ → List ℕ → ℕ
count_up_to bound [] buckets = 0
count_up_to bound (limit ∷ limits) [] = 0
count_up_to bound (limit ∷ limits) (bucket ∷ buckets) = (if int_le limit bound then bucket else 0) + count_up_to bound limits buckets

-- a count has room in 128 bits; no memory holds as many buckets as would go beyond
abbrev pub within_room : ℕ → ℕ
within_room n = min n (2 ^ 128 - 1)

-- how many values of all cells are not above a bound
unfoldable pub values_up_to : ℤ → List KeyedCell → ℕ
values_up_to bound cells = within_room (sum_by (λ e. count_up_to bound (bounds_in e) (buckets_in e.1.held)) cells)

-- the bounds that some cells share, where there are some, and one more with these bounds
abbrev pub bounds_with : Option (List ℤ) → List ℤ → List ℤ
bounds_with None bounds = filter (λ bound. list_any (eq_by_cmp int_cmp bound) bounds) (filter is_shown (rising bounds))
bounds_with (Some shared) bounds = filter (λ bound. list_any (eq_by_cmp int_cmp bound) bounds) shared

-- what is kept under each service shows the bounds of its cells
abbrev pub AreBounds : {V : Type 0} → (V → List ℤ) → List KeyedCell → List (List ℕ × V) → Type 0
AreBounds shows all kept = (service : List ℕ) → option_map_or shows (lookup (is_at (text_cmp service)) kept) [] ≡ service_bounds all service

-- the same where the kind of a metric asks for bounds
abbrev pub HaveBounds : {V : Type 0} → Kind → (V → List ℤ) → List KeyedCell → List (List ℕ × V) → Type 0
HaveBounds Updown shows all kept = Unit {0}
HaveBounds Counter shows all kept = Unit {0}
HaveBounds Gauge shows all kept = Unit {0}
HaveBounds Histogram shows all kept = AreBounds shows all kept
