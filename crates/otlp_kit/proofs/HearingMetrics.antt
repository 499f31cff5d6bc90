-- What the crate's own messages say: metrics, scopes, the resource and the whole request.
use Rattle.std.proofs.Common.{◌≡◌, ℕ, cond, Bool, true, false, List, [], ◌∷◌, ◌++◌, map, Option, Some, None, Result, Ok, Err, ℤ, pos, refl, sym, ap, ◌∙◌, subst, arith}
use Rattle.std.specs.List.{AllByRecursion, flat_map}
use Rattle.attr_kit.specs.declared.attr_value.AttrValue.{AttrValue}
use Rattle.point_kit.specs.Orders.{bounds_of}
use Rattle.point_kit.specs.declared.export.Export.{Export}
use Rattle.point_kit.specs.declared.export_point.ExportPoint.{ExportPoint}
use Rattle.point_kit.specs.declared.payload.Payload.{Payload}
use Rattle.point_kit.specs.declared.payload.Payload.TheVariants as payloads
use Rattle.point_kit.specs.declared.shape.Shape.{Shape}
use Rattle.point_kit.specs.declared.shape.Shape.TheVariants as shapes
use Rattle.point_kit.specs.declared.stream.Stream.{Stream}
use Rattle.point_kit.specs.declared.writer_id.WriterId.{WriterId}
use Rattle.otlp_kit.specs.Wire.{block, text_unless_empty}
use Rattle.otlp_kit.specs.Request.{key_value, attribute, instance, service, resource, number_point, point_fields, fields_of, point, points_of, cumulative, is_monotonic, sum_fields, metric_data, metric_fields, metric, metrics, scope_fields, scope_metrics, scopes, of_one_stream, of_one_scope, resource_metrics, request}
use Rattle.otlp_kit.specs.Request as requests
use Rattle.otlp_kit.specs.Runs.{runs}
use Rattle.otlp_kit.specs.Fields.{and_then, refused}
use Rattle.otlp_kit.specs.Limits.{is_long}
use Rattle.otlp_kit.specs.Messages.{service_text, key_value_step, no_key_value, number_point_step, no_number_point, histogram_point_step, no_histogram_point, gauge_step, no_gauge, sum_step, no_sum, histogram_step, no_histogram, metric_step, no_metric, scope_step, no_scope, scope_metrics_step, no_scope_metrics, resource_step, no_resource, resource_metrics_step, no_resource_metrics, request_step, no_request, request_said}
use Rattle.otlp_kit.specs.Sent.{IsNumber, IsPair}
use Rattle.otlp_kit.proofs.Sendable.{IsName, IsPayload, IsSent}
use Rattle.otlp_kit.specs.declared.histogram_point.HistogramPoint.{HistogramPoint}
use Rattle.otlp_kit.specs.declared.key_value.KeyValue.{KeyValue}
use Rattle.otlp_kit.specs.declared.metric.Data.{Data}
use Rattle.otlp_kit.specs.declared.metric.Data.TheVariants as kinds
use Rattle.otlp_kit.specs.declared.metric.Gauge.{Gauge}
use Rattle.otlp_kit.specs.declared.metric.Histogram.{Histogram}
use Rattle.otlp_kit.specs.declared.metric.Metric.{Metric}
use Rattle.otlp_kit.specs.declared.metric.Sum.{Sum}
use Rattle.otlp_kit.specs.declared.number_point.NumberPoint.{NumberPoint}
use Rattle.otlp_kit.specs.declared.request_fault.RequestFault.{RequestFault}
use Rattle.otlp_kit.specs.declared.request_fault.RequestReason.TheVariants as reasons
use Rattle.otlp_kit.specs.declared.resource.Request.{Request}
use Rattle.otlp_kit.specs.declared.resource.Resource.{Resource}
use Rattle.otlp_kit.specs.declared.resource.ResourceMetrics.{ResourceMetrics}
use Rattle.otlp_kit.specs.declared.scope.Scope.{Scope}
use Rattle.otlp_kit.specs.declared.scope.ScopeMetrics.{ScopeMetrics}
use Rattle.otlp_kit.proofs.Hearing.{numbered, names, heard_pair, says_pair, heard_number, says_number_point}
use Rattle.otlp_kit.proofs.HearingPoints.{heard_histogram, says_histogram_point}
use Rattle.otlp_kit.proofs.Parting.{IsRun, all_of}
use Rattle.otlp_kit.proofs.Saying.{IsShort, short_front, short_behind, short_block, short_each, both, Says, says_nothing, says_then, says_number, says_block, says_whole, says_each, says_message, says_messages, says_text_unless_empty, given_text}

-- ---- points of a run

abbrev pub value_in : Payload → ℤ
value_in (payloads.Sum n) = n
value_in (payloads.Gauge n) = n
value_in (payloads.Hist count sum buckets range) = pos 0

abbrev pub heard_number_of : ℕ → ℕ → ExportPoint → NumberPoint
heard_number_of start time p = heard_number start time (value_in p.payload) p.attrs

abbrev pub heard_payload : ℕ → ℕ → List (List ℕ × AttrValue) → List ℤ → Payload → HistogramPoint
heard_payload start time attrs bounds (payloads.Sum n) = no_histogram_point
heard_payload start time attrs bounds (payloads.Gauge n) = no_histogram_point
heard_payload start time attrs bounds (payloads.Hist count sum buckets range) = heard_histogram start time attrs bounds count sum buckets range

abbrev pub heard_histogram_of : ℕ → ℕ → ExportPoint → HistogramPoint
heard_histogram_of start time p = heard_payload start time p.attrs (bounds_of p.stream.shape) p.payload

abbrev pub gauge_with : List NumberPoint → Gauge
gauge_with ps = record { points = ps }

abbrev pub sum_with : List NumberPoint → Option ℕ → Option ℕ → Sum
sum_with ps temporality monotonic = record { points = ps; temporality = temporality; monotonic = monotonic }

abbrev pub histogram_of : List HistogramPoint → Option ℕ → Histogram
histogram_of ps temporality = record { points = ps; temporality = temporality }

abbrev pub given_monotonic : Bool → Option ℕ
given_monotonic true = Some 1
given_monotonic false = None

abbrev pub metric_with : Option (List ℕ) → Option (List ℕ) → Option Data → Metric
metric_with name unit kind = record { name = name; unit = unit; kind = kind }

abbrev pub scope_metrics_with : Option Scope → List Metric → ScopeMetrics
scope_metrics_with scope ms = record { scope = scope; metrics = ms }

abbrev pub scope_with : Option (List ℕ) → Scope
scope_with name = record { name = name; version = None; attributes = [] }

abbrev pub resource_metrics_with : Option Resource → List ScopeMetrics → ResourceMetrics
resource_metrics_with resource ss = record { resource = resource; scopes = ss }

module _ (start time : ℕ) where
  abbrev pub OfShape : Shape → ExportPoint → Type 0
  OfShape shape p = IsSent start p × (p.stream.shape ≡ shape)

  abbrev pub heard_data : Shape → List ExportPoint → Data
  heard_data shapes.Gauge ps = kinds.Gauge (gauge_with (map (heard_number_of start time) ps))
  heard_data (shapes.Sum monotonic) ps = kinds.Sum (sum_with (map (heard_number_of start time) ps) (Some 2) (given_monotonic monotonic))
  heard_data (shapes.Histogram bounds) ps = kinds.Histogram (histogram_of (map (heard_histogram_of start time) ps) (Some 2))

  abbrev pub OfStream : Stream → ExportPoint → Type 0
  OfStream s p = IsSent start p × (p.stream ≡ s)

  abbrev pub heard_fields : Stream → List ExportPoint → Metric
  heard_fields s ps = metric_with (given_text s.name) (given_text s.unit) (Some (heard_data s.shape ps))

  abbrev pub heard_metric : List ExportPoint → Metric
  heard_metric [] = no_metric
  heard_metric (p ∷ ps) = heard_fields p.stream (p ∷ ps)

  abbrev pub IsStreamRun : List ExportPoint → Type 0
  IsStreamRun r = IsRun (IsSent start) (λ p. p.stream) r

  abbrev pub heard_scope_fields : List ℕ → List (List ExportPoint) → ScopeMetrics
  heard_scope_fields name rs = scope_metrics_with (Some (scope_with (given_text name))) (map heard_metric rs)

  abbrev pub heard_scope : List ExportPoint → ScopeMetrics
  heard_scope [] = no_scope_metrics
  heard_scope (p ∷ ps) = heard_scope_fields p.stream.scope (runs of_one_stream (p ∷ ps))

  -- a run of points of one scope, and its runs
  abbrev pub IsScopeRun : List ExportPoint → Type 0
  IsScopeRun r = IsRun (IsSent start) (λ p. p.stream.scope) r × AllByRecursion IsStreamRun (runs of_one_stream r)

  module _ (start_fits : IsNumber start) (time_fits : IsNumber time) where
    says_gauge_value : (attrs : List (List ℕ × AttrValue)) (payload : Payload) → AllByRecursion IsPair attrs → IsPayload shapes.Gauge payload → IsShort (point_fields start time attrs [] payload) → Says number_point_step (point_fields start time attrs [] payload) no_number_point (heard_number start time (value_in payload) attrs)
    says_gauge_value attrs (payloads.Gauge n) pairs fits short = says_number_point start time n attrs start_fits time_fits fits pairs short
    says_gauge_value attrs (payloads.Sum n) pairs fits short = absurd fits
    says_gauge_value attrs (payloads.Hist count sum buckets range) pairs fits short = absurd fits

    says_sum_value : (monotonic : Bool) (attrs : List (List ℕ × AttrValue)) (payload : Payload) → AllByRecursion IsPair attrs → IsPayload (shapes.Sum monotonic) payload → IsShort (point_fields start time attrs [] payload) → Says number_point_step (point_fields start time attrs [] payload) no_number_point (heard_number start time (value_in payload) attrs)
    says_sum_value monotonic attrs (payloads.Sum n) pairs fits short = says_number_point start time n attrs start_fits time_fits fits pairs short
    says_sum_value monotonic attrs (payloads.Gauge n) pairs fits short = absurd fits
    says_sum_value monotonic attrs (payloads.Hist count sum buckets range) pairs fits short = absurd fits

    says_histogram_value : (bounds : List ℤ) (attrs : List (List ℕ × AttrValue)) (payload : Payload) → AllByRecursion IsPair attrs → IsPayload (shapes.Histogram bounds) payload → IsShort (point_fields start time attrs bounds payload) → Says histogram_point_step (point_fields start time attrs bounds payload) no_histogram_point (heard_payload start time attrs bounds payload)
    says_histogram_value bounds attrs (payloads.Hist count sum buckets range) pairs fits short = says_histogram_point start time attrs bounds count sum buckets range start_fits time_fits pairs fits short
    says_histogram_value bounds attrs (payloads.Sum n) pairs fits short = absurd fits
    says_histogram_value bounds attrs (payloads.Gauge n) pairs fits short = absurd fits

    gauge_points : (ps : List ExportPoint) → AllByRecursion (OfShape shapes.Gauge) ps → AllByRecursion (λ p. IsShort (fields_of start time p) → Says number_point_step (fields_of start time p) no_number_point (heard_number_of start time p)) ps
    gauge_points ps all = all_of (OfShape shapes.Gauge) (λ p. IsShort (fields_of start time p) → Says number_point_step (fields_of start time p) no_number_point (heard_number_of start time p)) each ps all
      where
        by : (attrs : List (List ℕ × AttrValue)) (payload : Payload) (shape : Shape) → shapes.Gauge ≡ shape → AllByRecursion IsPair attrs → IsPayload shape payload → IsShort (point_fields start time attrs (bounds_of shape) payload) → Says number_point_step (point_fields start time attrs (bounds_of shape) payload) no_number_point (heard_number start time (value_in payload) attrs)
        by attrs payload shape e pairs = subst (λ (s : Shape). IsPayload s payload → IsShort (point_fields start time attrs (bounds_of s) payload) → Says number_point_step (point_fields start time attrs (bounds_of s) payload) no_number_point (heard_number start time (value_in payload) attrs)) e (λ fits short. says_gauge_value attrs payload pairs fits short)

        each : (p : ExportPoint) → OfShape shapes.Gauge p → IsShort (fields_of start time p) → Says number_point_step (fields_of start time p) no_number_point (heard_number_of start time p)
        each p h short = by p.attrs p.payload p.stream.shape (sym h.1) h.0.attrs.0 h.0.payload short

    sum_points : (monotonic : Bool) (ps : List ExportPoint) → AllByRecursion (OfShape (shapes.Sum monotonic)) ps → AllByRecursion (λ p. IsShort (fields_of start time p) → Says number_point_step (fields_of start time p) no_number_point (heard_number_of start time p)) ps
    sum_points monotonic ps all = all_of (OfShape (shapes.Sum monotonic)) (λ p. IsShort (fields_of start time p) → Says number_point_step (fields_of start time p) no_number_point (heard_number_of start time p)) each ps all
      where
        by : (attrs : List (List ℕ × AttrValue)) (payload : Payload) (shape : Shape) → shapes.Sum monotonic ≡ shape → AllByRecursion IsPair attrs → IsPayload shape payload → IsShort (point_fields start time attrs (bounds_of shape) payload) → Says number_point_step (point_fields start time attrs (bounds_of shape) payload) no_number_point (heard_number start time (value_in payload) attrs)
        by attrs payload shape e pairs = subst (λ (s : Shape). IsPayload s payload → IsShort (point_fields start time attrs (bounds_of s) payload) → Says number_point_step (point_fields start time attrs (bounds_of s) payload) no_number_point (heard_number start time (value_in payload) attrs)) e (λ fits short. says_sum_value monotonic attrs payload pairs fits short)

        each : (p : ExportPoint) → OfShape (shapes.Sum monotonic) p → IsShort (fields_of start time p) → Says number_point_step (fields_of start time p) no_number_point (heard_number_of start time p)
        each p h short = by p.attrs p.payload p.stream.shape (sym h.1) h.0.attrs.0 h.0.payload short

    histogram_points : (bounds : List ℤ) (ps : List ExportPoint) → AllByRecursion (OfShape (shapes.Histogram bounds)) ps → AllByRecursion (λ p. IsShort (fields_of start time p) → Says histogram_point_step (fields_of start time p) no_histogram_point (heard_histogram_of start time p)) ps
    histogram_points bounds ps all = all_of (OfShape (shapes.Histogram bounds)) (λ p. IsShort (fields_of start time p) → Says histogram_point_step (fields_of start time p) no_histogram_point (heard_histogram_of start time p)) each ps all
      where
        by : (attrs : List (List ℕ × AttrValue)) (payload : Payload) (shape : Shape) → shapes.Histogram bounds ≡ shape → AllByRecursion IsPair attrs → IsPayload shape payload → IsShort (point_fields start time attrs (bounds_of shape) payload) → Says histogram_point_step (point_fields start time attrs (bounds_of shape) payload) no_histogram_point (heard_payload start time attrs (bounds_of shape) payload)
        by attrs payload shape e pairs = subst (λ (s : Shape). IsPayload s payload → IsShort (point_fields start time attrs (bounds_of s) payload) → Says histogram_point_step (point_fields start time attrs (bounds_of s) payload) no_histogram_point (heard_payload start time attrs (bounds_of s) payload)) e (λ fits short. says_histogram_value bounds attrs payload pairs fits short)

        each : (p : ExportPoint) → OfShape (shapes.Histogram bounds) p → IsShort (fields_of start time p) → Says histogram_point_step (fields_of start time p) no_histogram_point (heard_histogram_of start time p)
        each p h short = by p.attrs p.payload p.stream.shape (sym h.1) h.0.attrs.0 h.0.payload short

    -- ---- the data of a metric

    says_gauge : (ps : List ExportPoint) → AllByRecursion (OfShape shapes.Gauge) ps → IsShort (points_of start time ps) → Says gauge_step (points_of start time ps) no_gauge (gauge_with (map (heard_number_of start time) ps))
    unfolding point gauge_step
    says_gauge ps all short =
        says_messages gauge_step number_point_step no_number_point 1 (fields_of start time) (heard_number_of start time) gauge_with (numbered 1 (omega arith) (omega arith)) (λ at place bs bytes. refl) ps (gauge_points ps all) short

    says_monotonic : (monotonic : Bool) (ps : List NumberPoint) → Says sum_step (is_monotonic monotonic) (sum_with ps (Some 2) None) (sum_with ps (Some 2) (given_monotonic monotonic))
    unfolding sum_step
    says_monotonic true ps = says_number sum_step 3 1 (sum_with ps (Some 2) None) (sum_with ps (Some 2) (Some 1)) (numbered 3 (omega arith) (omega arith)) (omega arith) (λ at. refl)
    says_monotonic false ps = says_nothing sum_step (sum_with ps (Some 2) None)

    says_sum : (monotonic : Bool) (ps : List ExportPoint) → AllByRecursion (OfShape (shapes.Sum monotonic)) ps → IsShort (sum_fields monotonic (points_of start time ps)) → Says sum_step (sum_fields monotonic (points_of start time ps)) no_sum (sum_with (map (heard_number_of start time) ps) (Some 2) (given_monotonic monotonic))
    unfolding point sum_step
    says_sum monotonic ps all short =
        let heard = map (heard_number_of start time) ps in
        let rest = cumulative ++ is_monotonic monotonic in
        says_then sum_step (points_of start time ps) rest no_sum (sum_with heard None None) (sum_with heard (Some 2) (given_monotonic monotonic))
        (says_messages sum_step number_point_step no_number_point 1 (fields_of start time) (heard_number_of start time) (λ (l : List NumberPoint). sum_with l None None) (numbered 1 (omega arith) (omega arith)) (λ at place bs bytes. refl) ps (sum_points monotonic ps all) (short_front (points_of start time ps) rest short))
        (says_then sum_step cumulative (is_monotonic monotonic) (sum_with heard None None) (sum_with heard (Some 2) None) (sum_with heard (Some 2) (given_monotonic monotonic))
        (says_number sum_step 2 2 (sum_with heard None None) (sum_with heard (Some 2) None) (numbered 2 (omega arith) (omega arith)) (omega arith) (λ at. refl))
        (says_monotonic monotonic heard))

    says_histogram : (bounds : List ℤ) (ps : List ExportPoint) → AllByRecursion (OfShape (shapes.Histogram bounds)) ps → IsShort (requests.histogram_fields (points_of start time ps)) → Says histogram_step (requests.histogram_fields (points_of start time ps)) no_histogram (histogram_of (map (heard_histogram_of start time) ps) (Some 2))
    unfolding point histogram_step
    says_histogram bounds ps all short =
        let heard = map (heard_histogram_of start time) ps in
        says_then histogram_step (points_of start time ps) cumulative no_histogram (histogram_of heard None) (histogram_of heard (Some 2))
        (says_messages histogram_step histogram_point_step no_histogram_point 1 (fields_of start time) (heard_histogram_of start time) (λ (l : List HistogramPoint). histogram_of l None) (numbered 1 (omega arith) (omega arith)) (λ at place bs bytes. refl) ps (histogram_points bounds ps all) (short_front (points_of start time ps) cumulative short))
        (says_number histogram_step 2 2 (histogram_of heard None) (histogram_of heard (Some 2)) (numbered 2 (omega arith) (omega arith)) (omega arith) (λ at. refl))

    says_data : (n u : Option (List ℕ)) (shape : Shape) (ps : List ExportPoint) → AllByRecursion (OfShape shape) ps → IsShort (metric_data shape (points_of start time ps)) → Says metric_step (metric_data shape (points_of start time ps)) (metric_with n u None) (metric_with n u (Some (heard_data shape ps)))
    unfolding metric_data metric_step
    says_data n u shapes.Gauge ps all short =
        let bytes = points_of start time ps in
        let heard = gauge_with (map (heard_number_of start time) ps) in
        let inner = short_block 5 bytes short in
        says_block metric_step 5 bytes (metric_with n u None) (metric_with n u (Some (kinds.Gauge heard))) (numbered 5 (omega arith) (omega arith)) inner
        (λ at place. ap (λ (r : Result Gauge RequestFault). and_then (and_then r (λ (g : Gauge). Ok (kinds.Gauge g))) (λ (d : Data). Ok (metric_with n u (Some d)))) (says_whole gauge_step bytes no_gauge heard place (says_gauge ps all inner)))
    says_data n u (shapes.Sum monotonic) ps all short =
        let bytes = sum_fields monotonic (points_of start time ps) in
        let heard = sum_with (map (heard_number_of start time) ps) (Some 2) (given_monotonic monotonic) in
        let inner = short_block 7 bytes short in
        says_block metric_step 7 bytes (metric_with n u None) (metric_with n u (Some (kinds.Sum heard))) (numbered 7 (omega arith) (omega arith)) inner
        (λ at place. ap (λ (r : Result Sum RequestFault). and_then (and_then r (λ (g : Sum). Ok (kinds.Sum g))) (λ (d : Data). Ok (metric_with n u (Some d)))) (says_whole sum_step bytes no_sum heard place (says_sum monotonic ps all inner)))
    says_data n u (shapes.Histogram bounds) ps all short =
        let bytes = requests.histogram_fields (points_of start time ps) in
        let heard = histogram_of (map (heard_histogram_of start time) ps) (Some 2) in
        let inner = short_block 9 bytes short in
        says_block metric_step 9 bytes (metric_with n u None) (metric_with n u (Some (kinds.Histogram heard))) (numbered 9 (omega arith) (omega arith)) inner
        (λ at place. ap (λ (r : Result Histogram RequestFault). and_then (and_then r (λ (g : Histogram). Ok (kinds.Histogram g))) (λ (d : Data). Ok (metric_with n u (Some d)))) (says_whole histogram_step bytes no_histogram heard place (says_histogram bounds ps all inner)))

    -- ---- a metric of a run of points of one stream

    says_metric_fields : (s : Stream) (ps : List ExportPoint) → IsName s.scope × (IsName s.name × IsName s.unit) → AllByRecursion (OfStream s) ps → IsShort (metric_fields start time s ps) → Says metric_step (metric_fields start time s ps) no_metric (heard_fields s ps)
    unfolding metric_fields metric_step
    says_metric_fields s ps fits all short =
        let n = text_unless_empty 1 s.name in
        let u = text_unless_empty 3 s.unit in
        let d = metric_data s.shape (points_of start time ps) in
        let short_rest = short_behind n (u ++ d) short in
        let gn = given_text s.name in
        let gu = given_text s.unit in
        says_then metric_step n (u ++ d) no_metric (metric_with gn None None) (heard_fields s ps)
        (says_text_unless_empty metric_step 1 s.name (λ (x : Option (List ℕ)). metric_with x None None) (numbered 1 (omega arith) (omega arith)) (short_front n (u ++ d) short)
        (λ at place. ap (λ (r : Result (List ℕ) RequestFault). and_then r (λ (t : List ℕ). Ok (metric_with (Some t) None None))) (names at place s.name fits.1.0)))
        (says_then metric_step u d (metric_with gn None None) (metric_with gn gu None) (heard_fields s ps)
        (says_text_unless_empty metric_step 3 s.unit (λ (x : Option (List ℕ)). metric_with gn x None) (numbered 3 (omega arith) (omega arith)) (short_front u d short_rest)
        (λ at place. ap (λ (r : Result (List ℕ) RequestFault). and_then r (λ (t : List ℕ). Ok (metric_with gn (Some t) None))) (names at place s.unit fits.1.1)))
        (says_data gn gu s.shape ps (all_of (OfStream s) (OfShape s.shape) (λ p h. (h.0, ap (λ (x : Stream). x.shape) h.1)) ps all) (short_behind u d short_rest)))

    says_metric : (scope : Option Scope) (bs : List Metric) (r : List ExportPoint) → IsStreamRun r × IsShort (metric start time r) → Says scope_metrics_step (metric start time r) (scope_metrics_with scope bs) (scope_metrics_with scope (bs ++ heard_metric r ∷ []))
    unfolding metric scope_metrics_step
    says_metric scope bs [] h = absurd h.0
    says_metric scope bs (p ∷ ps) h =
        let bytes = metric_fields start time p.stream (p ∷ ps) in
        let inner = short_block 2 bytes h.1 in
        says_message scope_metrics_step metric_step no_metric (heard_metric (p ∷ ps)) 2 bytes (scope_metrics_with scope bs) (λ (m : Metric). scope_metrics_with scope (bs ++ m ∷ [])) (numbered 2 (omega arith) (omega arith)) (λ at place. refl) inner
        (says_metric_fields p.stream (p ∷ ps) h.0.0.0.stream h.0 inner)

    -- ---- a scope

    says_scope : (name : List ℕ) → IsName name → IsShort (text_unless_empty 1 name) → Says scope_step (text_unless_empty 1 name) no_scope (scope_with (given_text name))
    unfolding scope_step
    says_scope name fits short =
        says_text_unless_empty scope_step 1 name scope_with (numbered 1 (omega arith) (omega arith)) short
        (λ at place. ap (λ (r : Result (List ℕ) RequestFault). and_then r (λ (t : List ℕ). Ok (scope_with (Some t)))) (names at place name fits))

    says_scope_fields : (name : List ℕ) (ps : List ExportPoint) → IsName name → AllByRecursion IsStreamRun (runs of_one_stream ps) → IsShort (scope_fields start time name ps) → Says scope_metrics_step (scope_fields start time name ps) no_scope_metrics (heard_scope_fields name (runs of_one_stream ps))
    unfolding scope_fields metrics scope_metrics_step
    says_scope_fields name ps fits all short =
        let rs = runs of_one_stream ps in
        let t = text_unless_empty 1 name in
        let s = Some (scope_with (given_text name)) in
        let ms = flat_map (metric start time) rs in
        let inner = short_block 1 t (short_front (block 1 t) ms short) in
        says_then scope_metrics_step (block 1 t) ms no_scope_metrics (scope_metrics_with s []) (heard_scope_fields name rs)
        (says_message scope_metrics_step scope_step no_scope (scope_with (given_text name)) 1 t no_scope_metrics (λ (x : Scope). scope_metrics_with (Some x) []) (numbered 1 (omega arith) (omega arith)) (λ at place. refl) inner (says_scope name fits inner))
        (says_each scope_metrics_step (λ r. IsStreamRun r × IsShort (metric start time r)) (metric start time) heard_metric (λ (l : List Metric). scope_metrics_with s l) (says_metric s) [] rs
        (both IsStreamRun (λ r. IsShort (metric start time r)) rs all (short_each (metric start time) rs (short_behind (block 1 t) ms short))))

    -- ---- scopes of a resource

    says_scope_metrics : (resource : Option Resource) (bs : List ScopeMetrics) (r : List ExportPoint) → IsScopeRun r × IsShort (scope_metrics start time r) → Says resource_metrics_step (scope_metrics start time r) (resource_metrics_with resource bs) (resource_metrics_with resource (bs ++ heard_scope r ∷ []))
    unfolding scope_metrics resource_metrics_step
    says_scope_metrics resource bs [] h = absurd h.0.0
    says_scope_metrics resource bs (p ∷ ps) h =
        let bytes = scope_fields start time p.stream.scope (p ∷ ps) in
        let inner = short_block 2 bytes h.1 in
        says_message resource_metrics_step scope_metrics_step no_scope_metrics (heard_scope (p ∷ ps)) 2 bytes (resource_metrics_with resource bs) (λ (s : ScopeMetrics). resource_metrics_with resource (bs ++ s ∷ [])) (numbered 2 (omega arith) (omega arith)) (λ at place. refl) inner
        (says_scope_fields p.stream.scope (p ∷ ps) h.0.0.0.0.stream.0 h.0.1 inner)

    pub says_scopes : (resource : Option Resource) (ps : List ExportPoint) → AllByRecursion IsScopeRun (runs of_one_scope ps) → IsShort (scopes start time ps) → Says resource_metrics_step (scopes start time ps) (resource_metrics_with resource []) (resource_metrics_with resource (map heard_scope (runs of_one_scope ps)))
    unfolding scopes
    says_scopes resource ps all short =
        let rs = runs of_one_scope ps in
        says_each resource_metrics_step (λ r. IsScopeRun r × IsShort (scope_metrics start time r)) (scope_metrics start time) heard_scope (λ (l : List ScopeMetrics). resource_metrics_with resource l) (says_scope_metrics resource) [] rs
        (both IsScopeRun (λ r. IsShort (scope_metrics start time r)) rs all (short_each (scope_metrics start time) rs short))

-- ---- the resource

abbrev pub resource_with : List KeyValue → Resource
resource_with attrs = record { attributes = attrs }

abbrev pub heard_resource : WriterId → Resource
heard_resource w = resource_with (heard_pair (instance w) ∷ heard_pair (service w) ∷ [])

says_attribute : (p : List ℕ × AttrValue) → IsPair p → is_long (service_text (heard_pair p)) ≡ false → (bs : List KeyValue) → IsShort (key_value p) → Says resource_step (attribute 1 p) (resource_with bs) (resource_with (bs ++ heard_pair p ∷ []))
unfolding resource_step
says_attribute p fits few bs short =
    let heard = heard_pair p in
    says_block resource_step 1 (key_value p) (resource_with bs) (resource_with (bs ++ heard ∷ [])) (numbered 1 (omega arith) (omega arith)) short
    (λ at place.
    ap (λ (r : Result KeyValue RequestFault). and_then r (λ (a : KeyValue). and_then (cond (is_long (service_text a)) (Err (refused reasons.TooLongText at)) (Ok (service_text a))) (λ (t : List ℕ). Ok (resource_with (bs ++ a ∷ []))))) (says_whole key_value_step (key_value p) no_key_value heard place (says_pair p fits short))
    ∙ ap (λ (b : Bool). and_then (cond b (Err (refused reasons.TooLongText at)) (Ok (service_text heard))) (λ (t : List ℕ). Ok (resource_with (bs ++ heard ∷ [])))) few)

pub says_resource : (w : WriterId) → IsPair (instance w) → IsPair (service w) → is_long w.service ≡ false → IsShort (resource w) → Says resource_step (resource w) no_resource (heard_resource w)
unfolding resource
says_resource w instance_fits service_fits few short =
    let a = attribute 1 (instance w) in
    let b = attribute 1 (service w) in
    says_then resource_step a b no_resource (resource_with (heard_pair (instance w) ∷ [])) (heard_resource w)
    (says_attribute (instance w) instance_fits refl [] (short_block 1 (key_value (instance w)) (short_front a b short)))
    (says_attribute (service w) service_fits few (heard_pair (instance w) ∷ []) (short_block 1 (key_value (service w)) (short_behind a b short)))

-- ---- the whole

abbrev pub heard_resource_metrics : Export → ResourceMetrics
heard_resource_metrics e = record { resource = Some (heard_resource e.writer); scopes = map (heard_scope e.start e.time) (runs of_one_scope e.points) }

abbrev pub heard_request : Export → Request
heard_request e = record { resources = heard_resource_metrics e ∷ [] }

pub request_heard : (e : Export) → IsNumber e.start → IsNumber e.time → IsPair (instance e.writer) → IsPair (service e.writer) → is_long e.writer.service ≡ false → AllByRecursion (IsScopeRun e.start e.time) (runs of_one_scope e.points) → IsShort (request e) → request_said (request e) ≡ Ok (heard_request e)
unfolding request resource_metrics request_step resource_metrics_step
request_heard e start_fits time_fits instance_fits service_fits few all short =
    let bytes = resource_metrics e in
    let r = resource e.writer in
    let b = block 1 r in
    let ss = scopes e.start e.time e.points in
    let inner = short_block 1 bytes short in
    let short_r = short_block 1 r (short_front b ss inner) in
    says_whole request_step (block 1 bytes) no_request (heard_request e) 0
    (says_message request_step resource_metrics_step no_resource_metrics (heard_resource_metrics e) 1 bytes no_request (λ (x : ResourceMetrics). record { resources = x ∷ [] }) (numbered 1 (omega arith) (omega arith)) (λ at place. refl) inner
    (says_then resource_metrics_step b ss no_resource_metrics (record { resource = Some (heard_resource e.writer); scopes = [] }) (heard_resource_metrics e)
    (says_message resource_metrics_step resource_step no_resource (heard_resource e.writer) 1 r no_resource_metrics (λ (x : Resource). record { resource = Some x; scopes = [] }) (numbered 1 (omega arith) (omega arith)) (λ at place. refl) short_r (says_resource e.writer instance_fits service_fits few short_r))
    (says_scopes e.start e.time start_fits time_fits (Some (heard_resource e.writer)) e.points all (short_behind b ss inner))))
