-- The exports that a request brings, or why it brings none. Places are counted through the whole request.
use Rattle.std.specs.Prelude.{ℕ, ℤ, ◌+◌, ◌%◌, ◌==◌, ◌&&◌, nat_eq, not, if◌then◌else◌, Bool, true, false, List, [], ◌∷◌, ◌++◌, length, map, fold, take, drop, slice_get, codes, Option, Some, None, Result, Ok, Err}
use Rattle.std.specs.Cmp.Lexicographic.{pointwise}
use Rattle.std.specs.Int.{cast_signed, w64}
use Rattle.std.specs.List.{list_any, position}
use Rattle.std.specs.Option.{unwrap_or}
use Rattle.attr_kit.specs.Putting.{attributes_of}
use Rattle.attr_kit.specs.declared.attr_value.AttrValue.{AttrValue}
use Rattle.attr_kit.specs.declared.attr_value.AttrValue.TheVariants as values
use Rattle.point_kit.specs.ExportFaults.{export_fault}
use Rattle.point_kit.specs.declared.export.Export.{Export}
use Rattle.point_kit.specs.declared.export_fault.ExportFault.{ExportFault}
use Rattle.point_kit.specs.declared.export_point.ExportPoint.{ExportPoint}
use Rattle.point_kit.specs.declared.payload.Payload.{Payload}
use Rattle.point_kit.specs.declared.payload.Payload.TheVariants as payloads
use Rattle.point_kit.specs.declared.shape.Shape.{Shape}
use Rattle.point_kit.specs.declared.shape.Shape.TheVariants as shapes
use Rattle.point_kit.specs.declared.stream.Stream.{Stream}
use Rattle.point_kit.specs.declared.writer_id.WriterId.{WriterId}
use Rattle.uuid.specs.Text.{parsed_hyphenated}
use Rattle.otlp_kit.specs.Limits.{are_many}
use Rattle.otlp_kit.specs.Exact.{exact}
use Rattle.otlp_kit.specs.Fields.{and_then, refused}
use Rattle.otlp_kit.specs.Messages.{request_said}
use Rattle.otlp_kit.specs.Refusals.{rises}
use Rattle.otlp_kit.specs.Walks.{walk, first_place}
use Rattle.otlp_kit.specs.declared.group.Group.{Group}
use Rattle.otlp_kit.specs.declared.histogram_point.HistogramPoint.{HistogramPoint}
use Rattle.otlp_kit.specs.declared.key_value.AnyContent.{AnyContent}
use Rattle.otlp_kit.specs.declared.key_value.AnyContent.TheVariants as anys
use Rattle.otlp_kit.specs.declared.key_value.AnyValue.{AnyValue}
use Rattle.otlp_kit.specs.declared.key_value.KeyValue.{KeyValue}
use Rattle.otlp_kit.specs.declared.metric.Data.{Data}
use Rattle.otlp_kit.specs.declared.metric.Data.TheVariants as kinds
use Rattle.otlp_kit.specs.declared.metric.Metric.{Metric}
use Rattle.otlp_kit.specs.declared.number_point.Number.{Number}
use Rattle.otlp_kit.specs.declared.number_point.Number.TheVariants as numbers
use Rattle.otlp_kit.specs.declared.number_point.NumberPoint.{NumberPoint}
use Rattle.otlp_kit.specs.declared.placed.Placed.{Placed}
use Rattle.otlp_kit.specs.declared.reading.Reading.{Reading}
use Rattle.otlp_kit.specs.declared.request_fault.RequestFault.{RequestFault}
use Rattle.otlp_kit.specs.declared.request_fault.RequestReason.TheVariants as reasons
use Rattle.otlp_kit.specs.declared.resource.Request.{Request}
use Rattle.otlp_kit.specs.declared.resource.Resource.{Resource}
use Rattle.otlp_kit.specs.declared.resource.ResourceMetrics.{ResourceMetrics}
use Rattle.otlp_kit.specs.declared.scope.Scope.{Scope}
use Rattle.otlp_kit.specs.declared.scope.ScopeMetrics.{ScopeMetrics}

abbrev pub refuse_when : Bool → RequestFault → Result (Unit {0}) RequestFault
refuse_when true f = Err f
refuse_when false f = Ok _

-- a text that is left out is empty, a number 0
abbrev pub text_or_empty : Option (List ℕ) → List ℕ
text_or_empty t = unwrap_or t []

abbrev pub or_zero : Option ℕ → ℕ
or_zero n = unwrap_or n 0

-- ---- attributes of a point

abbrev pub content_value : Option AnyContent → Option AttrValue
content_value (Some (anys.Text t)) = Some (values.Text t)
content_value (Some (anys.Truth b)) = Some (values.Truth b)
content_value (Some (anys.Whole n)) = Some (values.Whole n)
content_value (Some anys.Other) = None
content_value None = None

abbrev pub value_of : Option AnyValue → Option AttrValue
value_of None = None
value_of (Some v) = content_value v.content

abbrev pub key_of : KeyValue → List ℕ
key_of a = text_or_empty a.key

abbrev pub pair_of : ℕ → List ℕ → Option AttrValue → Result (List ℕ × AttrValue) RequestFault
pair_of n key None = Err (refused reasons.AttributeValue n)
pair_of n key (Some v) = Ok (key, v)

abbrev pub attribute : ℕ → Bool → KeyValue → Result (List ℕ × AttrValue) RequestFault
attribute n twice a =
    if length (key_of a) == 0 then Err (refused reasons.EmptyKey n)
    else if twice then Err (refused reasons.AttributeTwice n)
    else pair_of n (key_of a) (value_of a.value)

abbrev pub has_key : List ℕ → KeyValue → Bool
has_key key a = pointwise nat_eq (key_of a) key

-- whether an earlier attribute has the key of the one at a place
abbrev pub is_twice : List KeyValue → ℕ → KeyValue → Bool
is_twice attrs i a = list_any (has_key (key_of a)) (take i attrs)

abbrev pub add_attribute : ℕ → List KeyValue → ℕ → List (List ℕ × AttrValue) → KeyValue → Result (List (List ℕ × AttrValue)) RequestFault
add_attribute n attrs i pairs a = and_then (attribute n (is_twice attrs i a) a) (λ p. Ok (pairs ++ p ∷ []))

unfoldable pub attributes : ℕ → List KeyValue → Result (List (List ℕ × AttrValue)) RequestFault
attributes n attrs =
    and_then (refuse_when (are_many attrs) (refused reasons.TooManyAttributes n)) (λ _.
    and_then (walk (add_attribute n attrs) [] attrs) (λ pairs. Ok (attributes_of pairs)))

-- ---- points

-- flag 1 says that there is no recorded value
abbrev pub recorded : ℕ → Option ℕ → Result (Unit {0}) RequestFault
recorded n flags = refuse_when (or_zero flags % 2 == 1) (refused reasons.NoRecordedValue n)

-- a start of 0 stands for unknown
abbrev pub started : ℕ → Option ℕ → Result (Unit {0}) RequestFault
started n start = refuse_when (or_zero start == 0) (refused reasons.UnknownStart n)

abbrev pub placed : Option ℕ → Option ℕ → Stream → List (List ℕ × AttrValue) → Payload → Placed
placed start time stream attrs payload =
    record { start = or_zero start; time = or_zero time; point = record { stream = stream; attrs = attrs; payload = payload } }

abbrev pub whole : ℕ → Option Number → Result ℤ RequestFault
whole n None = Err (refused reasons.NoValue n)
whole n (Some numbers.Double) = Err (refused reasons.FloatValue n)
whole n (Some (numbers.Whole bits)) = Ok (cast_signed w64 bits)

abbrev pub number_placed : ℕ → Stream → NumberPoint → Payload → Result Placed RequestFault
number_placed n stream p payload = and_then (attributes n p.attributes) (λ attrs. Ok (placed p.start p.time stream attrs payload))

unfoldable pub gauge_point : ℕ → Stream → NumberPoint → Result Placed RequestFault
gauge_point n stream p =
    and_then (recorded n p.flags) (λ _. and_then (whole n p.value) (λ v. number_placed n stream p (payloads.Gauge v)))

unfoldable pub sum_point : ℕ → Stream → NumberPoint → Result Placed RequestFault
sum_point n stream p =
    and_then (recorded n p.flags) (λ _. and_then (started n p.start) (λ _. and_then (whole n p.value) (λ v.
    number_placed n stream p (payloads.Sum v))))

abbrev pub sum_of : ℕ → Option ℕ → Result ℤ RequestFault
sum_of n None = Err (refused reasons.NoSum n)
sum_of n (Some bits) = exact n bits

abbrev pub add_bound : ℕ → ℕ → List ℤ → ℕ → Result (List ℤ) RequestFault
add_bound n i bounds bits = and_then (exact n bits) (λ bound. Ok (bounds ++ bound ∷ []))

abbrev pub bounds_of : ℕ → List ℕ → Result (List ℤ) RequestFault
bounds_of n doubles =
    and_then (walk (add_bound n) [] doubles) (λ bounds. and_then (refuse_when (not (rises bounds)) (refused reasons.BadBounds n)) (λ _. Ok bounds))

-- the least value and the greatest: both, or neither
abbrev pub range_of : ℕ → Option ℕ → Option ℕ → Result (Option (ℤ × ℤ)) RequestFault
range_of n None None = Ok None
range_of n (Some least) None = Err (refused reasons.HalfRange n)
range_of n None (Some greatest) = Err (refused reasons.HalfRange n)
range_of n (Some least) (Some greatest) = and_then (exact n least) (λ a. and_then (exact n greatest) (λ b. Ok (Some (a, b))))

-- a histogram with neither buckets nor bounds has one bucket
abbrev pub buckets_of : HistogramPoint → List ℕ
buckets_of p = if (length p.buckets == 0) && (length p.bounds == 0) then or_zero p.count ∷ [] else p.buckets

abbrev pub named : List ℕ → List ℕ → List ℕ → Shape → Stream
named scope name unit shape = record { scope = scope; name = name; unit = unit; shape = shape }

unfoldable pub histogram_payload : ℕ → HistogramPoint → Result (List ℤ × Payload) RequestFault
histogram_payload n p =
    and_then (sum_of n p.sum) (λ sum. and_then (bounds_of n p.bounds) (λ bounds. and_then (range_of n p.least p.greatest) (λ range.
    Ok (bounds, payloads.Hist (or_zero p.count) sum (buckets_of p) range))))

unfoldable pub histogram_point : ℕ → List ℕ → List ℕ → List ℕ → HistogramPoint → Result Placed RequestFault
histogram_point n scope name unit p =
    and_then (recorded n p.flags) (λ _. and_then (started n p.start) (λ _. and_then (histogram_payload n p) (λ h.
    and_then (attributes n p.attributes) (λ attrs.
    Ok (placed p.start p.time (named scope name unit (shapes.Histogram h.0)) attrs h.1)))))

-- ---- metrics

abbrev pub with_point : Reading → Placed → Reading
with_point r p = record { scopes = r.scopes; metrics = r.metrics; points = r.points + 1; placed = r.placed ++ p ∷ [] }

abbrev pub add_gauge_point : Stream → ℕ → Reading → NumberPoint → Result Reading RequestFault
add_gauge_point stream i r p = and_then (gauge_point r.points stream p) (λ x. Ok (with_point r x))

abbrev pub add_sum_point : Stream → ℕ → Reading → NumberPoint → Result Reading RequestFault
add_sum_point stream i r p = and_then (sum_point r.points stream p) (λ x. Ok (with_point r x))

abbrev pub add_histogram_point : List ℕ → List ℕ → List ℕ → ℕ → Reading → HistogramPoint → Result Reading RequestFault
add_histogram_point scope name unit i r p = and_then (histogram_point r.points scope name unit p) (λ x. Ok (with_point r x))

-- a sum or a histogram is cumulative
abbrev pub cumulative : ℕ → Option ℕ → Result (Unit {0}) RequestFault
cumulative m temporality =
    if or_zero temporality == 1 then Err (refused reasons.Delta m)
    else refuse_when (not (or_zero temporality == 2)) (refused reasons.NoTemporality m)

abbrev pub stream_of : List ℕ → Metric → Shape → Stream
stream_of scope m shape = named scope (text_or_empty m.name) (text_or_empty m.unit) shape

abbrev pub is_monotonic : Option ℕ → Bool
is_monotonic n = not (or_zero n == 0)

abbrev pub add_data : List ℕ → Metric → Reading → Option Data → Result Reading RequestFault
add_data scope m r (Some (kinds.Gauge g)) = walk (add_gauge_point (stream_of scope m shapes.Gauge)) r g.points
add_data scope m r (Some (kinds.Sum s)) =
    and_then (cumulative r.metrics s.temporality) (λ _.
    walk (add_sum_point (stream_of scope m (shapes.Sum (is_monotonic s.monotonic)))) r s.points)
add_data scope m r (Some (kinds.Histogram h)) =
    and_then (cumulative r.metrics h.temporality) (λ _.
    walk (add_histogram_point scope (text_or_empty m.name) (text_or_empty m.unit)) r h.points)
add_data scope m r (Some kinds.ExponentialHistogram) = Err (refused reasons.ExponentialHistogram r.metrics)
add_data scope m r (Some kinds.Summary) = Err (refused reasons.Summary r.metrics)
add_data scope m r None = Err (refused reasons.NoData r.metrics)

abbrev pub behind_metric : Reading → Reading
behind_metric r = record { scopes = r.scopes; metrics = r.metrics + 1; points = r.points; placed = r.placed }

unfoldable pub add_metric : List ℕ → ℕ → Reading → Metric → Result Reading RequestFault
add_metric scope i r m = and_then (add_data scope m r m.kind) (λ s. Ok (behind_metric s))

abbrev pub add_metrics : List ℕ → Reading → List Metric → Result Reading RequestFault
add_metrics scope r ms = walk (add_metric scope) r ms

-- ---- scopes

abbrev pub name_of : Option Scope → List ℕ
name_of None = []
name_of (Some s) = text_or_empty s.name

abbrev pub version_of : Option Scope → List ℕ
version_of None = []
version_of (Some s) = text_or_empty s.version

abbrev pub attributes_in : Option Scope → List (List ℕ)
attributes_in None = []
attributes_in (Some s) = s.attributes

abbrev pub scope_name : ScopeMetrics → List ℕ
scope_name s = name_of s.scope

abbrev pub is_alike : ScopeMetrics → ScopeMetrics → Bool
is_alike s t =
    pointwise nat_eq (version_of s.scope) (version_of t.scope)
    && pointwise (pointwise nat_eq) (attributes_in s.scope) (attributes_in t.scope)

abbrev pub differs : ScopeMetrics → Option ScopeMetrics → Bool
differs s None = false
differs s (Some t) = not (is_alike s t)

-- whether the first scope of this name has another version or other attributes
abbrev pub is_other : List ScopeMetrics → ScopeMetrics → Bool
is_other scopes s = differs s (slice_get scopes (first_place (map scope_name scopes) (scope_name s)))

abbrev pub behind_scope : Reading → Reading
behind_scope r = record { scopes = r.scopes + 1; metrics = r.metrics; points = r.points; placed = r.placed }

unfoldable pub add_scope : List ScopeMetrics → ℕ → Reading → ScopeMetrics → Result Reading RequestFault
add_scope scopes i r s =
    and_then (refuse_when (is_other scopes s) (refused reasons.ScopeTwice r.scopes)) (λ _.
    and_then (add_metrics (scope_name s) r s.metrics) (λ t. Ok (behind_scope t)))

-- ---- resources

-- the place of the only attribute of a key
abbrev pub alone : List ℕ → List KeyValue → Option ℕ → Option ℕ
alone key attrs None = None
alone key attrs (Some i) = if list_any (has_key key) (drop (i + 1) attrs) then None else Some i

abbrev pub text_in : Option KeyValue → Option (List ℕ)
text_in None = None
text_in (Some a) = text_value (value_of a.value)
  where
    text_value : Option AttrValue → Option (List ℕ)
    text_value (Some (values.Text t)) = Some t
    text_value v = None

-- the text of the only attribute of a key
abbrev pub text_under : List ℕ → List KeyValue → Option (List ℕ)
text_under key attrs = text_at attrs (alone key attrs (position (has_key key) attrs))
  where
    text_at : List KeyValue → Option ℕ → Option (List ℕ)
    text_at attrs None = None
    text_at attrs (Some i) = text_in (slice_get attrs i)

abbrev pub resource_attributes : Option Resource → List KeyValue
resource_attributes None = []
resource_attributes (Some r) = r.attributes

abbrev pub or_refuse : {A : Type 0} → Option A → RequestFault → Result A RequestFault
or_refuse None f = Err f
or_refuse (Some x) f = Ok x

-- the writer of resource r: its service.name, and its service.instance.id as a UUID with hyphens
unfoldable pub writer_of : ℕ → List KeyValue → Result WriterId RequestFault
writer_of r attrs =
    and_then (or_refuse (text_under (codes "service.name") attrs) (refused reasons.NoService r)) (λ service.
    and_then (or_refuse (text_under (codes "service.instance.id") attrs) (refused reasons.NoInstance r)) (λ text.
    and_then (or_refuse (parsed_hyphenated text) (refused reasons.NotUuid r)) (λ instance.
    Ok (record { service = service; instance = instance }))))

-- the points of one start and time, in their order
abbrev pub is_of : Placed → Group → Bool
is_of p g = (p.start == g.start) && (p.time == g.time)

abbrev pub group_of : Placed → Group
group_of p = record { start = p.start; time = p.time; points = p.point ∷ [] }

abbrev pub with_member : Group → Placed → Group
with_member g p = record { start = g.start; time = g.time; points = g.points ++ p.point ∷ [] }

abbrev pub add_member : List Group → Placed → List Group
add_member [] p = group_of p ∷ []
add_member (g ∷ gs) p = if is_of p g then with_member g p ∷ gs else g ∷ add_member gs p

-- what an export says
pub record Said : Type 0 where
  pub writer : WriterId
  pub start : ℕ
  pub time : ℕ
  pub points : List ExportPoint

abbrev pub said_of : Export → Said
said_of e = record { writer = e.writer; start = e.start; time = e.time; points = e.points }

-- what makes no export is refused with the number of those before
abbrev pub built : ℕ → Said → Option ExportFault → Result Said RequestFault
built k said None = Ok said
built k said (Some f) = Err (refused (reasons.BadExport f) k)

abbrev pub add_export : WriterId → ℕ → List Said → Group → Result (List Said) RequestFault
add_export writer i exports g =
    and_then
    (built (length exports) (record { writer = writer; start = g.start; time = g.time; points = g.points }) (export_fault g.start g.time g.points))
    (λ said. Ok (exports ++ said ∷ []))

abbrev pub groups_of : List Placed → List Group
groups_of ps = fold add_member [] ps

abbrev pub exports_of : WriterId → List Said → Reading → Result (Reading × List Said) RequestFault
exports_of writer exports r =
    and_then (walk (add_export writer) exports (groups_of r.placed)) (λ more.
    Ok (record { scopes = r.scopes; metrics = r.metrics; points = r.points; placed = [] }, more))

-- the places that the next messages have, and the exports so far
abbrev pub Progress : Type 0
Progress = Reading × List Said

unfoldable pub add_resource : ℕ → Progress → ResourceMetrics → Result Progress RequestFault
add_resource i p r =
    and_then (writer_of i (resource_attributes r.resource)) (λ writer.
    and_then (walk (add_scope r.scopes) p.0 r.scopes) (λ reading. exports_of writer p.1 reading))

abbrev pub nothing_read : Reading
nothing_read = record { scopes = 0; metrics = 0; points = 0; placed = [] }

-- the exports of a request, in its order
unfoldable pub exports_in : Request → Result (List Said) RequestFault
exports_in q = and_then (walk add_resource (nothing_read, []) q.resources) (λ p. Ok p.1)

-- the exports of the request that these bytes are, or the first refusal: of the bytes, and then of what they say
unfoldable pub exports_read : List ℕ → Result (List Said) RequestFault
exports_read bytes = and_then (request_said bytes) exports_in
