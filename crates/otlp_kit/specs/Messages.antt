-- What the fields of each message are, by the numbers that opentelemetry-proto gives them. Others are passed over.
use Rattle.std.specs.Prelude.{ℕ, ◌==◌, ◌||◌, nat_eq, nat_lt, codes, if◌then◌else◌, Bool, List, [], ◌∷◌, ◌++◌, not, Option, Some, None, Result, Ok}
use Rattle.std.specs.Cmp.Lexicographic.{pointwise}
use Rattle.std.specs.Int.{cast_signed, w64}
use Rattle.std.specs.Option.{unwrap_or}
use Rattle.otlp_kit.specs.Contents.{block_in, eights_in, fits, once, name_once, number_once, eight_once, text_once}
use Rattle.otlp_kit.specs.Fields.{and_then, message}
use Rattle.otlp_kit.specs.declared.field.Field.{Field}
use Rattle.otlp_kit.specs.declared.histogram_point.HistogramPoint.{HistogramPoint}
use Rattle.otlp_kit.specs.declared.key_value.AnyContent.{AnyContent}
use Rattle.otlp_kit.specs.declared.key_value.AnyContent.TheVariants as anys
use Rattle.otlp_kit.specs.declared.key_value.AnyValue.{AnyValue}
use Rattle.otlp_kit.specs.declared.key_value.KeyValue.{KeyValue}
use Rattle.otlp_kit.specs.declared.metric.Data.{Data}
use Rattle.otlp_kit.specs.declared.metric.Data.TheVariants as kinds
use Rattle.otlp_kit.specs.declared.metric.Gauge.{Gauge}
use Rattle.otlp_kit.specs.declared.metric.Histogram.{Histogram}
use Rattle.otlp_kit.specs.declared.metric.Metric.{Metric}
use Rattle.otlp_kit.specs.declared.metric.Sum.{Sum}
use Rattle.otlp_kit.specs.declared.number_point.Number.TheVariants as numbers
use Rattle.otlp_kit.specs.declared.number_point.NumberPoint.{NumberPoint}
use Rattle.otlp_kit.specs.declared.request_fault.RequestFault.{RequestFault}
use Rattle.otlp_kit.specs.declared.resource.Request.{Request}
use Rattle.otlp_kit.specs.declared.resource.Resource.{Resource}
use Rattle.otlp_kit.specs.declared.resource.ResourceMetrics.{ResourceMetrics}
use Rattle.otlp_kit.specs.declared.scope.Scope.{Scope}
use Rattle.otlp_kit.specs.declared.scope.ScopeMetrics.{ScopeMetrics}

-- the message that a field has
abbrev pub within : {M : Type 0} → (M → Field → Result M RequestFault) → M → Field → Result M RequestFault
within step none f = and_then (block_in f) (message step none)

-- AnyValue: string_value 1, bool_value 2, int_value 3; double_value 4, array_value 5, kvlist_value 6, bytes_value 7
abbrev pub any_content : Field → Option AnyContent → Result AnyContent RequestFault
any_content f held =
    if f.number == 1 then and_then (text_once f held) (λ t. Ok (anys.Text t))
    else if f.number == 2 then and_then (number_once f held) (λ n. Ok (anys.Truth (not (n == 0))))
    else if f.number == 3 then and_then (number_once f held) (λ n. Ok (anys.Whole (cast_signed w64 n)))
    else if f.number == 4 then and_then (eight_once f held) (λ _. Ok anys.Other)
    else and_then (once f held (block_in f)) (λ _. Ok anys.Other)

abbrev pub no_value : AnyValue
no_value = record { content = None }

unfoldable pub any_step : AnyValue → Field → Result AnyValue RequestFault
any_step v f = if nat_lt 7 f.number then Ok v else and_then (any_content f v.content) (λ c. Ok (record { content = Some c }))

-- KeyValue: key 1, value 2
abbrev pub no_key_value : KeyValue
no_key_value = record { key = None; value = None }

unfoldable pub key_value_step : KeyValue → Field → Result KeyValue RequestFault
key_value_step p f =
    if f.number == 1 then and_then (text_once f p.key) (λ t. Ok (record { key = Some t; value = p.value }))
    else if f.number == 2 then and_then (once f p.value (within any_step no_value f)) (λ v. Ok (record { key = p.key; value = Some v }))
    else Ok p

abbrev pub key_value_in : Field → Result KeyValue RequestFault
key_value_in f = within key_value_step no_key_value f

-- NumberDataPoint: start_time_unix_nano 2, time_unix_nano 3, as_double 4, as_int 6, attributes 7, flags 8
abbrev pub no_number_point : NumberPoint
no_number_point = record { start = None; time = None; value = None; attributes = []; flags = None }

unfoldable pub number_point_step : NumberPoint → Field → Result NumberPoint RequestFault
number_point_step p f =
    if f.number == 2 then and_then (eight_once f p.start) (λ n. Ok (record { start = Some n; time = p.time; value = p.value; attributes = p.attributes; flags = p.flags }))
    else if f.number == 3 then and_then (eight_once f p.time) (λ n. Ok (record { start = p.start; time = Some n; value = p.value; attributes = p.attributes; flags = p.flags }))
    else if f.number == 4 then and_then (eight_once f p.value) (λ _. Ok (record { start = p.start; time = p.time; value = Some numbers.Double; attributes = p.attributes; flags = p.flags }))
    else if f.number == 6 then and_then (eight_once f p.value) (λ n. Ok (record { start = p.start; time = p.time; value = Some (numbers.Whole n); attributes = p.attributes; flags = p.flags }))
    else if f.number == 7 then and_then (key_value_in f) (λ a. Ok (record { start = p.start; time = p.time; value = p.value; attributes = p.attributes ++ a ∷ []; flags = p.flags }))
    else if f.number == 8 then and_then (number_once f p.flags) (λ n. Ok (record { start = p.start; time = p.time; value = p.value; attributes = p.attributes; flags = Some n }))
    else Ok p

-- HistogramDataPoint: start_time_unix_nano 2, time_unix_nano 3, count 4, sum 5, bucket_counts 6, explicit_bounds 7, attributes 9, flags 10,
-- min 11, max 12
abbrev pub no_histogram_point : HistogramPoint
no_histogram_point =
    record { start = None; time = None; count = None; sum = None; buckets = []; bounds = []; attributes = []; flags = None; least = None; greatest = None }

abbrev pub with_start : HistogramPoint → ℕ → HistogramPoint
with_start p x =
    record { start = Some x; time = p.time; count = p.count; sum = p.sum; buckets = p.buckets; bounds = p.bounds; attributes = p.attributes; flags = p.flags; least = p.least; greatest = p.greatest }

abbrev pub with_time : HistogramPoint → ℕ → HistogramPoint
with_time p x =
    record { start = p.start; time = Some x; count = p.count; sum = p.sum; buckets = p.buckets; bounds = p.bounds; attributes = p.attributes; flags = p.flags; least = p.least; greatest = p.greatest }

abbrev pub with_count : HistogramPoint → ℕ → HistogramPoint
with_count p x =
    record { start = p.start; time = p.time; count = Some x; sum = p.sum; buckets = p.buckets; bounds = p.bounds; attributes = p.attributes; flags = p.flags; least = p.least; greatest = p.greatest }

abbrev pub with_sum : HistogramPoint → ℕ → HistogramPoint
with_sum p x =
    record { start = p.start; time = p.time; count = p.count; sum = Some x; buckets = p.buckets; bounds = p.bounds; attributes = p.attributes; flags = p.flags; least = p.least; greatest = p.greatest }

abbrev pub with_buckets : HistogramPoint → List ℕ → HistogramPoint
with_buckets p x =
    record { start = p.start; time = p.time; count = p.count; sum = p.sum; buckets = x; bounds = p.bounds; attributes = p.attributes; flags = p.flags; least = p.least; greatest = p.greatest }

abbrev pub with_bounds : HistogramPoint → List ℕ → HistogramPoint
with_bounds p x =
    record { start = p.start; time = p.time; count = p.count; sum = p.sum; buckets = p.buckets; bounds = x; attributes = p.attributes; flags = p.flags; least = p.least; greatest = p.greatest }

abbrev pub with_attributes : HistogramPoint → List KeyValue → HistogramPoint
with_attributes p x =
    record { start = p.start; time = p.time; count = p.count; sum = p.sum; buckets = p.buckets; bounds = p.bounds; attributes = x; flags = p.flags; least = p.least; greatest = p.greatest }

abbrev pub with_flags : HistogramPoint → ℕ → HistogramPoint
with_flags p x =
    record { start = p.start; time = p.time; count = p.count; sum = p.sum; buckets = p.buckets; bounds = p.bounds; attributes = p.attributes; flags = Some x; least = p.least; greatest = p.greatest }

abbrev pub with_least : HistogramPoint → ℕ → HistogramPoint
with_least p x =
    record { start = p.start; time = p.time; count = p.count; sum = p.sum; buckets = p.buckets; bounds = p.bounds; attributes = p.attributes; flags = p.flags; least = Some x; greatest = p.greatest }

abbrev pub with_greatest : HistogramPoint → ℕ → HistogramPoint
with_greatest p x =
    record { start = p.start; time = p.time; count = p.count; sum = p.sum; buckets = p.buckets; bounds = p.bounds; attributes = p.attributes; flags = p.flags; least = p.least; greatest = Some x }

unfoldable pub histogram_point_step : HistogramPoint → Field → Result HistogramPoint RequestFault
histogram_point_step p f =
    if f.number == 2 then and_then (eight_once f p.start) (λ n. Ok (with_start p n))
    else if f.number == 3 then and_then (eight_once f p.time) (λ n. Ok (with_time p n))
    else if f.number == 4 then and_then (eight_once f p.count) (λ n. Ok (with_count p n))
    else if f.number == 5 then and_then (eight_once f p.sum) (λ n. Ok (with_sum p n))
    else if f.number == 6 then and_then (eights_in f) (λ ns. Ok (with_buckets p (p.buckets ++ ns)))
    else if f.number == 7 then and_then (eights_in f) (λ ns. Ok (with_bounds p (p.bounds ++ ns)))
    else if f.number == 9 then and_then (key_value_in f) (λ a. Ok (with_attributes p (p.attributes ++ a ∷ [])))
    else if f.number == 10 then and_then (number_once f p.flags) (λ n. Ok (with_flags p n))
    else if f.number == 11 then and_then (eight_once f p.least) (λ n. Ok (with_least p n))
    else if f.number == 12 then and_then (eight_once f p.greatest) (λ n. Ok (with_greatest p n))
    else Ok p

-- Gauge: data_points 1
abbrev pub no_gauge : Gauge
no_gauge = record { points = [] }

unfoldable pub gauge_step : Gauge → Field → Result Gauge RequestFault
gauge_step g f =
    if f.number == 1 then and_then (within number_point_step no_number_point f) (λ p. Ok (record { points = g.points ++ p ∷ [] }))
    else Ok g

-- Sum: data_points 1, aggregation_temporality 2, is_monotonic 3
abbrev pub no_sum : Sum
no_sum = record { points = []; temporality = None; monotonic = None }

abbrev pub sum_point : Sum → NumberPoint → Sum
sum_point s p = record { points = s.points ++ p ∷ []; temporality = s.temporality; monotonic = s.monotonic }

unfoldable pub sum_step : Sum → Field → Result Sum RequestFault
sum_step s f =
    if f.number == 1 then and_then (within number_point_step no_number_point f) (λ p. Ok (sum_point s p))
    else if f.number == 2 then and_then (number_once f s.temporality) (λ n. Ok (record { points = s.points; temporality = Some n; monotonic = s.monotonic }))
    else if f.number == 3 then and_then (number_once f s.monotonic) (λ n. Ok (record { points = s.points; temporality = s.temporality; monotonic = Some n }))
    else Ok s

-- Histogram: data_points 1, aggregation_temporality 2
abbrev pub no_histogram : Histogram
no_histogram = record { points = []; temporality = None }

abbrev pub histogram_point : Histogram → HistogramPoint → Histogram
histogram_point h p = record { points = h.points ++ p ∷ []; temporality = h.temporality }

unfoldable pub histogram_step : Histogram → Field → Result Histogram RequestFault
histogram_step h f =
    if f.number == 1 then and_then (within histogram_point_step no_histogram_point f) (λ p. Ok (histogram_point h p))
    else if f.number == 2 then and_then (number_once f h.temporality) (λ n. Ok (record { points = h.points; temporality = Some n }))
    else Ok h

-- Metric: name 1, unit 3; gauge 5, sum 7, histogram 9, exponential_histogram 10, summary 11
abbrev pub no_metric : Metric
no_metric = record { name = None; unit = None; kind = None }

abbrev pub data_of : Field → Result Data RequestFault
data_of f =
    if f.number == 5 then and_then (within gauge_step no_gauge f) (λ g. Ok (kinds.Gauge g))
    else if f.number == 7 then and_then (within sum_step no_sum f) (λ s. Ok (kinds.Sum s))
    else if f.number == 9 then and_then (within histogram_step no_histogram f) (λ h. Ok (kinds.Histogram h))
    else if f.number == 10 then and_then (block_in f) (λ _. Ok kinds.ExponentialHistogram)
    else and_then (block_in f) (λ _. Ok kinds.Summary)

abbrev pub is_data : Field → Bool
is_data f = (f.number == 5) || ((f.number == 7) || ((f.number == 9) || ((f.number == 10) || (f.number == 11))))

unfoldable pub metric_step : Metric → Field → Result Metric RequestFault
metric_step m f =
    if f.number == 1 then and_then (name_once f m.name) (λ t. Ok (record { name = Some t; unit = m.unit; kind = m.kind }))
    else if f.number == 3 then and_then (name_once f m.unit) (λ t. Ok (record { name = m.name; unit = Some t; kind = m.kind }))
    else if is_data f then and_then (once f m.kind (data_of f)) (λ d. Ok (record { name = m.name; unit = m.unit; kind = Some d }))
    else Ok m

-- InstrumentationScope: name 1, version 2, attributes 3
abbrev pub no_scope : Scope
no_scope = record { name = None; version = None; attributes = [] }

unfoldable pub scope_step : Scope → Field → Result Scope RequestFault
scope_step s f =
    if f.number == 1 then and_then (name_once f s.name) (λ t. Ok (record { name = Some t; version = s.version; attributes = s.attributes }))
    else if f.number == 2 then and_then (text_once f s.version) (λ t. Ok (record { name = s.name; version = Some t; attributes = s.attributes }))
    else if f.number == 3 then and_then (block_in f) (λ b. and_then (message key_value_step no_key_value b) (λ _. Ok (record { name = s.name; version = s.version; attributes = s.attributes ++ b.bytes ∷ [] })))
    else Ok s

-- ScopeMetrics: scope 1, metrics 2
abbrev pub no_scope_metrics : ScopeMetrics
no_scope_metrics = record { scope = None; metrics = [] }

unfoldable pub scope_metrics_step : ScopeMetrics → Field → Result ScopeMetrics RequestFault
scope_metrics_step s f =
    if f.number == 1 then and_then (once f s.scope (within scope_step no_scope f)) (λ x. Ok (record { scope = Some x; metrics = s.metrics }))
    else if f.number == 2 then and_then (within metric_step no_metric f) (λ m. Ok (record { scope = s.scope; metrics = s.metrics ++ m ∷ [] }))
    else Ok s

-- the text of a service has a limit, and that of another attribute has none
abbrev pub text_of : Option AnyContent → List ℕ
text_of (Some (anys.Text t)) = t
text_of other = []

abbrev pub value_text : Option AnyValue → List ℕ
value_text None = []
value_text (Some v) = text_of v.content

abbrev pub service_text : KeyValue → List ℕ
service_text a = if pointwise nat_eq (unwrap_or a.key []) (codes "service.name") then value_text a.value else []

abbrev pub service_fits : Field → KeyValue → Result (List ℕ) RequestFault
service_fits f a = fits f (service_text a)

-- Resource: attributes 1
abbrev pub no_resource : Resource
no_resource = record { attributes = [] }

unfoldable pub resource_step : Resource → Field → Result Resource RequestFault
resource_step r f =
    if f.number == 1 then and_then (key_value_in f) (λ a. and_then (service_fits f a) (λ _. Ok (record { attributes = r.attributes ++ a ∷ [] })))
    else Ok r

-- ResourceMetrics: resource 1, scope_metrics 2
abbrev pub no_resource_metrics : ResourceMetrics
no_resource_metrics = record { resource = None; scopes = [] }

unfoldable pub resource_metrics_step : ResourceMetrics → Field → Result ResourceMetrics RequestFault
resource_metrics_step r f =
    if f.number == 1 then and_then (once f r.resource (within resource_step no_resource f)) (λ x. Ok (record { resource = Some x; scopes = r.scopes }))
    else if f.number == 2 then and_then (within scope_metrics_step no_scope_metrics f) (λ s. Ok (record { resource = r.resource; scopes = r.scopes ++ s ∷ [] }))
    else Ok r

-- ExportMetricsServiceRequest: resource_metrics 1
abbrev pub no_request : Request
no_request = record { resources = [] }

unfoldable pub request_step : Request → Field → Result Request RequestFault
request_step q f =
    if f.number == 1 then and_then (within resource_metrics_step no_resource_metrics f) (λ r. Ok (record { resources = q.resources ++ r ∷ [] }))
    else Ok q

-- what these bytes say as a request, or why they do not
abbrev pub request_said : List ℕ → Result Request RequestFault
request_said bytes = message request_step no_request (record { at = 0; bytes = bytes })
