-- An export comes back from its request.
use Rattle.std.proofs.Common.{◌≡◌, ℕ, zero, suc, ◌+◌, ◌<◌, ◌≤◌, cond, Bool, true, false, List, [], ◌∷◌, ◌++◌, length, map, fold, All, Option, Some, None, Result, Ok, ℤ, inl, refl, sym, ap, ◌∙◌, subst, append_assoc, append-nil, arith}
use Rattle.std.specs.Prelude.{◌&&◌, ◌==◌, nat_lt, not, codes, slice_get, slice_index}
use Rattle.std.specs.List.{AllByRecursion, flat_map, list_all, list_any, position_from}
use Rattle.std.specs.Option.{option_map, option_or}
use Rattle.std.specs.Str.{IsUtf8}
use Rattle.std.proofs.lemmas.Bool.Decides.{nat_tests}
use Rattle.std.proofs.lemmas.Iterator.Adapters.{position_from-zero}
use Rattle.std.proofs.lemmas.List.{length-map, map-append}
use Rattle.std.proofs.lemmas.List.Elements.{All-tail}
use Rattle.std.proofs.lemmas.Option.{slice_get-map}
use Rattle.std.proofs.lemmas.Str.{IsUtf8-from_ascii}
use Rattle.attr_kit.specs.Exact.{exact_texts, first_holds, second_holds}
use Rattle.attr_kit.specs.Refusing.{when}
use Rattle.point_kit.proofs.Sound.{sound_points}
use Rattle.point_kit.specs.Exact.{exact_streams}
use Rattle.point_kit.specs.Orders.{bounds_of}
use Rattle.point_kit.specs.Payload.{IsSound, IsSoundHistogram}
use Rattle.point_kit.specs.declared.export.Export.{Export}
use Rattle.point_kit.specs.declared.export_fault.ExportFault.{ExportFault}
use Rattle.point_kit.specs.declared.export_point.ExportPoint.{ExportPoint}
use Rattle.point_kit.specs.declared.payload.Payload.{Payload}
use Rattle.point_kit.specs.declared.payload.Payload.TheVariants as payloads
use Rattle.point_kit.specs.declared.shape.Shape.{Shape}
use Rattle.point_kit.specs.declared.shape.Shape.TheVariants as shapes
use Rattle.point_kit.specs.declared.stream.Stream.{Stream}
use Rattle.point_kit.specs.declared.writer_id.WriterId.{WriterId}
use Rattle.uuid.specs.Text.{hyphenated_text, lower}
use Rattle.uuid.proofs.RoundTrips.{parses_hyphenated_text}
use Rattle.uuid.proofs.TextLemmas.{hyphenated_ascii}
use Rattle.otlp_kit.specs.Doubles.{double}
use Rattle.otlp_kit.specs.Fields.{and_then, refused}
use Rattle.otlp_kit.specs.Reading.{text_or_empty, or_zero, gauge_point, sum_point, histogram_point, named, with_point, add_gauge_point, add_sum_point, add_histogram_point, stream_of, add_data, behind_metric, add_metric, add_metrics, scope_name, is_other, differs, behind_scope, add_scope, text_under, or_refuse, writer_of, group_of, with_member, add_member, Said, said_of, built, add_export, groups_of, exports_of, Progress, add_resource, nothing_read, exports_in, exports_read}
use Rattle.otlp_kit.specs.Limits.{is_long}
use Rattle.otlp_kit.specs.Reading as readings
use Rattle.otlp_kit.specs.Refusals.{rises, has_bad_bounds, has_long_text, has_many_attributes, most_bytes, bounds_fault, text_fault, attributes_fault, early_fault, length_fault, otlp_fault}
use Rattle.otlp_kit.specs.Request.{instance, service, of_one_stream, of_one_scope, request}
use Rattle.otlp_kit.specs.Runs.{runs}
use Rattle.otlp_kit.specs.Sent.{IsWriter, IsExport, IsSaid}
use Rattle.otlp_kit.proofs.Sendable.{AreFew, IsPayload, IsStarted, IsSent, none_of, all_sent}
use Rattle.otlp_kit.specs.Walks.{walk, walk_from, first_place}
use Rattle.otlp_kit.specs.declared.fault.OtlpFault.{OtlpFault}
use Rattle.otlp_kit.specs.declared.fault.OtlpFault.TheVariants as otlp
use Rattle.otlp_kit.specs.declared.group.Group.{Group}
use Rattle.otlp_kit.specs.declared.placed.Placed.{Placed}
use Rattle.otlp_kit.specs.declared.reading.Reading.{Reading}
use Rattle.otlp_kit.specs.declared.request_fault.RequestFault.{RequestFault}
use Rattle.otlp_kit.specs.declared.request_fault.RequestReason.TheVariants as reasons
use Rattle.otlp_kit.specs.declared.resource.Request.{Request}
use Rattle.otlp_kit.proofs.Hearing.{heard_pair, heard_number}
use Rattle.otlp_kit.proofs.HearingMetrics.{value_in, heard_number_of, heard_payload, heard_histogram_of, given_monotonic, heard_data, heard_fields, heard_metric, heard_scope, heard_request, IsScopeRun, request_heard}
use Rattle.otlp_kit.proofs.Parting.{IsRun, all_of, runs_hold, rejoined}
use Rattle.otlp_kit.proofs.Regained.{Pairs, equal_self, point_with, placed_with, gauge_back, sum_back, histogram_back}
use Rattle.otlp_kit.proofs.Saying.{IsShort, given_text}

-- a point that comes back
pub record IsBack (start : ℕ) (p : ExportPoint) : Type 0 where
  pub sent : IsSent start p
  pub rising : rises (bounds_of p.stream.shape) ≡ true
  pub sound : IsSound p.stream.shape p.payload

text_back : (t : List ℕ) → text_or_empty (given_text t) ≡ t
text_back [] = refl
text_back (b ∷ bs) = refl

monotonic_back : (b : Bool) → readings.is_monotonic (given_monotonic b) ≡ b
monotonic_back true = refl
monotonic_back false = refl

singles : {A : Type 0} (xs : List A) → flat_map (λ x. x ∷ []) xs ≡ xs
singles [] = refl
singles {A = A} (x ∷ xs) = ap (λ (l : List A). x ∷ l) (singles xs)

module _ (start time : ℕ) where
  -- ---- one point

  gauge_of : (n : ℕ) (s st : Stream) (attrs : Pairs) (payload : Payload) → st ≡ s → s.shape ≡ shapes.Gauge → IsPayload st.shape payload → AreFew attrs → gauge_point n s (heard_number start time (value_in payload) attrs) ≡ Ok (placed_with start time (point_with st attrs payload))
  gauge_of n s st attrs (payloads.Gauge v) e k fits are =
      let kind : st.shape ≡ shapes.Gauge = ap (λ (x : Stream). x.shape) e ∙ k in
      gauge_back n start time s v attrs (subst (λ (h : Shape). IsPayload h (payloads.Gauge v)) kind fits) are
      ∙ ap (λ (x : Stream). Ok (placed_with start time (point_with x attrs (payloads.Gauge v)))) (sym e)
  gauge_of n s st attrs (payloads.Sum v) e k fits are = absurd (subst (λ (h : Shape). IsPayload h (payloads.Sum v)) (ap (λ (x : Stream). x.shape) e ∙ k) fits)
  gauge_of n s st attrs (payloads.Hist c t b r) e k fits are = absurd (subst (λ (h : Shape). IsPayload h (payloads.Hist c t b r)) (ap (λ (x : Stream). x.shape) e ∙ k) fits)

  sum_of : (n : ℕ) (m : Bool) (s st : Stream) (attrs : Pairs) (payload : Payload) → st ≡ s → s.shape ≡ shapes.Sum m → IsPayload st.shape payload → IsStarted start st.shape → AreFew attrs → sum_point n s (heard_number start time (value_in payload) attrs) ≡ Ok (placed_with start time (point_with st attrs payload))
  sum_of n m s st attrs (payloads.Sum v) e k fits starts are =
      let kind : st.shape ≡ shapes.Sum m = ap (λ (x : Stream). x.shape) e ∙ k in
      sum_back n start time s v attrs (subst (IsStarted start) kind starts) (subst (λ (h : Shape). IsPayload h (payloads.Sum v)) kind fits) are
      ∙ ap (λ (x : Stream). Ok (placed_with start time (point_with x attrs (payloads.Sum v)))) (sym e)
  sum_of n m s st attrs (payloads.Gauge v) e k fits starts are = absurd (subst (λ (h : Shape). IsPayload h (payloads.Gauge v)) (ap (λ (x : Stream). x.shape) e ∙ k) fits)
  sum_of n m s st attrs (payloads.Hist c t b r) e k fits starts are = absurd (subst (λ (h : Shape). IsPayload h (payloads.Hist c t b r)) (ap (λ (x : Stream). x.shape) e ∙ k) fits)

  some_buckets : (b : List ℤ) (c : ℕ) (t : ℤ) (l : List ℕ) (r : Option (ℤ × ℤ)) → IsSoundHistogram b c t l r → 0 < length l
  some_buckets b c t l r h = let size = h.buckets in omega (arith, size)

  histogram_by : (n : ℕ) (b : List ℤ) (s st : Stream) (attrs : Pairs) (payload : Payload) → st ≡ s → s.shape ≡ shapes.Histogram b → IsPayload (shapes.Histogram b) payload → 0 < start → AreFew attrs → rises b ≡ true → IsSound (shapes.Histogram b) payload → histogram_point n s.scope s.name s.unit (heard_payload start time attrs b payload) ≡ Ok (placed_with start time (point_with st attrs payload))
  histogram_by n b s st attrs (payloads.Hist c t l r) e k fits starts are up sound =
      histogram_back n start time s.scope s.name s.unit attrs b c t l r starts are fits up (some_buckets b c t l r sound)
      ∙ ap (λ (x : Stream). Ok (placed_with start time (point_with x attrs (payloads.Hist c t l r)))) (ap (λ (h : Shape). named s.scope s.name s.unit h) (sym k) ∙ sym e)
  histogram_by n b s st attrs (payloads.Sum v) e k fits starts are up sound = absurd fits
  histogram_by n b s st attrs (payloads.Gauge v) e k fits starts are up sound = absurd fits

  abbrev OfStreamBack : Stream → ExportPoint → Type 0
  OfStreamBack s p = IsBack start p × (p.stream ≡ s)

  histogram_of : (n : ℕ) (b : List ℤ) (s : Stream) (p : ExportPoint) → OfStreamBack s p → s.shape ≡ shapes.Histogram b → histogram_point n s.scope s.name s.unit (heard_histogram_of start time p) ≡ Ok (placed_with start time p)
  histogram_of n b s p h k =
      let kind : p.stream.shape ≡ shapes.Histogram b = ap (λ (x : Stream). x.shape) h.1 ∙ k in
      let sent = h.0.sent in
      ap (λ (x : Shape). histogram_point n s.scope s.name s.unit (heard_payload start time p.attrs (bounds_of x) p.payload)) kind
      ∙ histogram_by n b s p.stream p.attrs p.payload h.1 k (subst (λ (x : Shape). IsPayload x p.payload) kind sent.payload) (subst (IsStarted start) kind sent.started) sent.attrs.1 (subst (λ (x : Shape). rises (bounds_of x) ≡ true) kind h.0.rising) (subst (λ (x : Shape). IsSound x p.payload) kind h.0.sound)

  -- ---- points, one after another

  record Gains (result : Result Reading RequestFault) (r : Reading) (ps : List ExportPoint) : Type 0 where
    reading : Reading
    so : result ≡ Ok reading
    placed_are : reading.placed ≡ r.placed ++ map (placed_with start time) ps

  gains_next : {B : Type 0} (step : ℕ → Reading → B → Result Reading RequestFault) (i : ℕ) (r : Reading) (y : B) (ys : List B) (ps qs : List ExportPoint) → (a : Gains (step i r y) r ps) → Gains (walk_from step (i + 1) a.reading ys) a.reading qs → Gains (walk_from step i r (y ∷ ys)) r (ps ++ qs)
  gains_next step i r y ys ps qs a b = record {
    reading = b.reading;
    so = ap (λ (x : Result Reading RequestFault). and_then x (λ (t : Reading). walk_from step (i + 1) t ys)) a.so ∙ b.so;
    placed_are =
        b.placed_are ∙ ap (λ (l : List Placed). l ++ map (placed_with start time) qs) a.placed_are
        ∙ append_assoc r.placed (map (placed_with start time) ps) (map (placed_with start time) qs)
        ∙ ap (λ (l : List Placed). r.placed ++ l) (sym (map-append (placed_with start time) ps qs));
  }

  walk_gains : {A B : Type 0} (P : A → Type 0) (step : ℕ → Reading → B → Result Reading RequestFault) (said : A → B) (adds : A → List ExportPoint) → ((i : ℕ) (r : Reading) (x : A) → P x → Gains (step i r (said x)) r (adds x)) → (i : ℕ) (r : Reading) (xs : List A) → AllByRecursion P xs → Gains (walk_from step i r (map said xs)) r (flat_map adds xs)
  walk_gains P step said adds each i r [] all = record { reading = r; so = refl; placed_are = sym (append-nil r.placed) }
  walk_gains P step said adds each i r (x ∷ xs) all =
      let a = each i r x all.0 in
      gains_next step i r (said x) (map said xs) (adds x) (flat_map adds xs) a (walk_gains P step said adds each (i + 1) a.reading xs all.1)

  one_gains : (r : Reading) (p : ExportPoint) (result : Result Placed RequestFault) → result ≡ Ok (placed_with start time p) → Gains (and_then result (λ x. Ok (with_point r x))) r (p ∷ [])
  one_gains r p result e = record {
    reading = with_point r (placed_with start time p);
    so = ap (λ (x : Result Placed RequestFault). and_then x (λ (y : Placed). Ok (with_point r y))) e;
    placed_are = refl;
  }

  stream_back : (s : Stream) (h : Shape) → s.shape ≡ h → named s.scope (text_or_empty (given_text s.name)) (text_or_empty (given_text s.unit)) h ≡ s
  stream_back s h e = λ i. named s.scope (text_back s.name i) (text_back s.unit i) (sym e i)

  data_gains : (s : Stream) (h : Shape) (r : Reading) (ps : List ExportPoint) → s.shape ≡ h → AllByRecursion (OfStreamBack s) ps → Gains (add_data s.scope (heard_fields start time s ps) r (Some (heard_data start time h ps))) r ps
  unfolding walk
  data_gains s shapes.Gauge r ps e all =
      subst (λ (x : Stream). Gains (walk_from (add_gauge_point x) 0 r (map (heard_number_of start time) ps)) r ps) (sym (stream_back s shapes.Gauge e))
      (subst (λ (l : List ExportPoint). Gains (walk_from (add_gauge_point s) 0 r (map (heard_number_of start time) ps)) r l) (singles ps)
      (walk_gains (OfStreamBack s) (add_gauge_point s) (heard_number_of start time) (λ p. p ∷ []) (λ i r p h. one_gains r p (gauge_point r.points s (heard_number_of start time p)) (gauge_of r.points s p.stream p.attrs p.payload h.1 e h.0.sent.payload h.0.sent.attrs.1)) 0 r ps all))
  data_gains s (shapes.Sum m) r ps e all =
      subst (λ (x : Stream). Gains (walk_from (add_sum_point x) 0 r (map (heard_number_of start time) ps)) r ps) (sym (ap (λ (b : Bool). named s.scope (text_or_empty (given_text s.name)) (text_or_empty (given_text s.unit)) (shapes.Sum b)) (monotonic_back m) ∙ stream_back s (shapes.Sum m) e))
      (subst (λ (l : List ExportPoint). Gains (walk_from (add_sum_point s) 0 r (map (heard_number_of start time) ps)) r l) (singles ps)
      (walk_gains (OfStreamBack s) (add_sum_point s) (heard_number_of start time) (λ p. p ∷ []) (λ i r p h. one_gains r p (sum_point r.points s (heard_number_of start time p)) (sum_of r.points m s p.stream p.attrs p.payload h.1 e h.0.sent.payload h.0.sent.started h.0.sent.attrs.1)) 0 r ps all))
  data_gains s (shapes.Histogram b) r ps e all =
      subst (λ (x : List ℕ). Gains (walk_from (add_histogram_point s.scope x (text_or_empty (given_text s.unit))) 0 r (map (heard_histogram_of start time) ps)) r ps) (sym (text_back s.name))
      (subst (λ (x : List ℕ). Gains (walk_from (add_histogram_point s.scope s.name x) 0 r (map (heard_histogram_of start time) ps)) r ps) (sym (text_back s.unit))
      (subst (λ (l : List ExportPoint). Gains (walk_from (add_histogram_point s.scope s.name s.unit) 0 r (map (heard_histogram_of start time) ps)) r l) (singles ps)
      (walk_gains (OfStreamBack s) (add_histogram_point s.scope s.name s.unit) (heard_histogram_of start time) (λ p. p ∷ []) (λ i r p h. one_gains r p (histogram_point r.points s.scope s.name s.unit (heard_histogram_of start time p)) (histogram_of r.points b s p h e)) 0 r ps all)))

  -- ---- metrics of a scope

  abbrev InScope : List ℕ → ExportPoint → Type 0
  InScope name p = IsBack start p × (p.stream.scope ≡ name)

  abbrev IsMetricRun : List ℕ → List ExportPoint → Type 0
  IsMetricRun name run = IsRun (InScope name) (λ p. p.stream) run

  metric_gains : (name : List ℕ) (i : ℕ) (r : Reading) (run : List ExportPoint) → IsMetricRun name run → Gains (add_metric name i r (heard_metric start time run)) r run
  unfolding add_metric
  metric_gains name i r [] h = absurd h
  metric_gains name i r (p ∷ ps) h =
      let s = p.stream in
      let m = heard_fields start time s (p ∷ ps) in
      let g = data_gains s s.shape r (p ∷ ps) refl (all_of (λ q. InScope name q × (q.stream ≡ s)) (OfStreamBack s) (λ q x. (x.0.0, x.1)) (p ∷ ps) h) in
      record {
        reading = behind_metric g.reading;
        so = ap (λ (n : List ℕ). and_then (add_data n m r m.kind) (λ (t : Reading). Ok (behind_metric t))) (sym h.0.0.1)
            ∙ ap (λ (x : Result Reading RequestFault). and_then x (λ (t : Reading). Ok (behind_metric t))) g.so;
        placed_are = g.placed_are;
      }

  -- ---- scopes of a resource

  alike : (run : List ExportPoint) (o : Option (List ExportPoint)) → differs (heard_scope start time run) (option_map (heard_scope start time) o) ≡ false
  alike [] None = refl
  alike (p ∷ ps) None = refl
  alike [] (Some []) = refl
  alike [] (Some (q ∷ qs)) = refl
  alike (p ∷ ps) (Some []) = refl
  alike (p ∷ ps) (Some (q ∷ qs)) = refl

  not_other : (rs : List (List ExportPoint)) (run : List ExportPoint) → is_other (map (heard_scope start time) rs) (heard_scope start time run) ≡ false
  not_other rs run =
      let s = heard_scope start time run in
      let place = first_place (map scope_name (map (heard_scope start time) rs)) (scope_name s) in
      ap (differs s) (slice_get-map (heard_scope start time) rs place) ∙ alike run (slice_get rs place)

  abbrev IsRunBack : List ExportPoint → Type 0
  IsRunBack run = IsRun (IsBack start) (λ p. p.stream.scope) run

  scope_gains : (rs : List (List ExportPoint)) (i : ℕ) (r : Reading) (run : List ExportPoint) → IsRunBack run → Gains (add_scope (map (heard_scope start time) rs) i r (heard_scope start time run)) r run
  unfolding add_scope walk
  scope_gains rs i r [] h = absurd h
  scope_gains rs i r (p ∷ ps) h =
      let name = p.stream.scope in
      let ms = runs of_one_stream (p ∷ ps) in
      let g = subst (λ (l : List ExportPoint). Gains (walk_from (add_metric name) 0 r (map (heard_metric start time) ms)) r l) (rejoined of_one_stream (p ∷ ps))
      (walk_gains (IsMetricRun name) (add_metric name) (heard_metric start time) (λ l. l) (metric_gains name) 0 r ms
      (runs_hold (InScope name) (λ q. q.stream) of_one_stream (λ x y e. exact_streams x.stream y.stream e) (p ∷ ps) h)) in
      record {
        reading = behind_scope g.reading;
        so = ap (λ (b : Bool). and_then (readings.refuse_when b (refused reasons.ScopeTwice r.scopes)) (λ (u : Unit {0}). and_then (add_metrics (text_or_empty (given_text name)) r (map (heard_metric start time) ms)) (λ (t : Reading). Ok (behind_scope t)))) (not_other rs (p ∷ ps))
            ∙ ap (λ (n : List ℕ). and_then (add_metrics n r (map (heard_metric start time) ms)) (λ (t : Reading). Ok (behind_scope t))) (text_back name)
            ∙ ap (λ (x : Result Reading RequestFault). and_then x (λ (t : Reading). Ok (behind_scope t))) g.so;
        placed_are = g.placed_are;
      }

  scopes_gain : (r : Reading) (ps : List ExportPoint) → AllByRecursion (IsBack start) ps → Gains (walk (add_scope (map (heard_scope start time) (runs of_one_scope ps))) r (map (heard_scope start time) (runs of_one_scope ps))) r ps
  unfolding walk
  scopes_gain r ps all =
      let rs = runs of_one_scope ps in
      subst (λ (l : List ExportPoint). Gains (walk_from (add_scope (map (heard_scope start time) rs)) 0 r (map (heard_scope start time) rs)) r l) (rejoined of_one_scope ps)
      (walk_gains IsRunBack (add_scope (map (heard_scope start time) rs)) (heard_scope start time) (λ l. l) (scope_gains rs) 0 r rs
      (runs_hold (IsBack start) (λ p. p.stream.scope) of_one_scope (λ x y e. exact_texts x.stream.scope y.stream.scope e) ps all))

  -- ---- the group of the window

  abbrev group_with : List ExportPoint → Group
  group_with ps = record { start = start; time = time; points = ps }

  joined : (qs ps : List ExportPoint) → fold add_member (group_with qs ∷ []) (map (placed_with start time) ps) ≡ group_with (qs ++ ps) ∷ []
  joined qs [] = ap (λ (l : List ExportPoint). group_with l ∷ []) (sym (append-nil qs))
  joined qs (p ∷ ps) =
      (λ i. fold add_member (cond (equal_self start i && equal_self time i) (group_with (qs ++ p ∷ []) ∷ []) (group_with qs ∷ group_with (p ∷ []) ∷ [])) (map (placed_with start time) ps))
      ∙ joined (qs ++ p ∷ []) ps
      ∙ ap (λ (l : List ExportPoint). group_with l ∷ []) (append_assoc qs (p ∷ []) ps)

  one_group : (ps : List ExportPoint) → 0 < length ps → groups_of (map (placed_with start time) ps) ≡ group_with ps ∷ []
  one_group [] h = absurd (omega arith)
  one_group (p ∷ ps) h = joined (p ∷ []) ps

-- ---- the writer

service_back : (w : WriterId) → text_under (codes "service.name") (heard_pair (instance w) ∷ heard_pair (service w) ∷ []) ≡ Some w.service
service_back w = refl

instance_back : (w : WriterId) → text_under (codes "service.instance.id") (heard_pair (instance w) ∷ heard_pair (service w) ∷ []) ≡ Some (hyphenated_text lower w.instance)
instance_back w = refl

writer_back : (n : ℕ) (w : WriterId) → IsWriter w → writer_of n (heard_pair (instance w) ∷ heard_pair (service w) ∷ []) ≡ Ok w
unfolding writer_of
writer_back n w is =
    ap (λ (o : Option (List ℕ)). and_then (or_refuse o (refused reasons.NotUuid n)) (λ (x : List ℕ). Ok (record { service = w.service; instance = x }))) (sym (parses_hyphenated_text lower w.instance (inl refl) is.sixteen is.bytes))

-- ---- what the hypotheses say of each point

none_pass : {A : Type 0} (t : A → Bool) (i : ℕ) (xs : List A) → position_from t i xs ≡ None → AllByRecursion (λ x. t x ≡ false) xs
none_pass t i [] e = _
none_pass t i (x ∷ xs) e = by (t x) refl (λ q. none_pass t (i + 1) xs q) e
  where
    by : (b : Bool) → t x ≡ b → (position_from t (i + 1) xs ≡ None → AllByRecursion (λ y. t y ≡ false) xs) → cond b (Some i) (position_from t (i + 1) xs) ≡ None → (t x ≡ false) × AllByRecursion (λ y. t y ≡ false) xs
    by true p later q = cc
    by false p later q = (p, later q)

none_are : {A : Type 0} (t : A → Bool) (xs : List A) → list_any t xs ≡ false → AllByRecursion (λ x. t x ≡ false) xs
none_are t [] e = _
none_are t (x ∷ xs) e = let both = none_of (t x) (list_any t xs) e in (both.0, none_are t xs both.1)

each_of : {A : Type 0} (P : A → Type 0) (xs : List A) → All P xs → AllByRecursion P xs
each_of P [] h = _
each_of P (x ∷ xs) h = (h 0 x (omega arith), each_of P xs (All-tail P x xs h))

all_back : (start : ℕ) (ps : List ExportPoint) → AllByRecursion (IsSent start) ps → AllByRecursion (λ p. has_bad_bounds p ≡ false) ps → AllByRecursion (λ p. IsSound p.stream.shape p.payload) ps → AllByRecursion (IsBack start) ps
all_back start [] a b c = _
all_back start (p ∷ ps) a b c = (record { sent = a.0; rising = up (rises (bounds_of p.stream.shape)) b.0; sound = c.0 }, all_back start ps a.1 b.1 c.1)
  where
    up : (t : Bool) → not t ≡ false → t ≡ true
    up true e = refl
    up false e = cc

left_none : {A : Type 0} (a b : Option A) → option_or a b ≡ None → a ≡ None
left_none None b e = refl
left_none (Some x) b e = cc

right_none : {A : Type 0} (a b : Option A) → option_or a b ≡ None → b ≡ None
right_none None b e = e
right_none (Some x) b e = cc

mapped_none : {A B : Type 0} (f : A → B) (o : Option A) → option_map f o ≡ None → o ≡ None
mapped_none f None e = refl
mapped_none f (Some x) e = cc

not_when : (b : Bool) (f : OtlpFault) → when b f ≡ None → b ≡ false
not_when true f e = cc
not_when false f e = refl

not_more : (a b : ℕ) → nat_lt a b ≡ false → b ≤ a
not_more a b e = grind (arith, nat_tests)

module _ (e : Export) (none : otlp_fault e ≡ None) where
  none_early : early_fault e ≡ None
  unfolding otlp_fault
  none_early = left_none (early_fault e) _ none

  no_bad_bounds : AllByRecursion (λ p. has_bad_bounds p ≡ false) e.points
  unfolding early_fault
  no_bad_bounds =
      none_pass has_bad_bounds 0 e.points (sym (position_from-zero has_bad_bounds e.points) ∙ mapped_none (λ i. otlp.BadBounds i) _ (left_none (bounds_fault e) _ none_early))

  no_long_text : (is_long e.writer.service ≡ false) × AllByRecursion (λ p. has_long_text p ≡ false) e.points
  unfolding early_fault
  no_long_text =
      let short = none_of (is_long e.writer.service) (list_any has_long_text e.points) (not_when _ otlp.TooLongText (left_none (text_fault e) _ (right_none (bounds_fault e) _ none_early))) in
      (short.0, none_are has_long_text e.points short.1)

  few_attributes : AllByRecursion (λ p. has_many_attributes p ≡ false) e.points
  unfolding early_fault
  few_attributes =
      none_pass has_many_attributes 0 e.points (sym (position_from-zero has_many_attributes e.points) ∙ mapped_none (λ i. otlp.TooManyAttributes i) _ (left_none (attributes_fault e) None (right_none (text_fault e) _ (right_none (bounds_fault e) _ none_early))))

  short_request : IsShort (request e)
  unfolding otlp_fault
  short_request =
      let few = not_more most_bytes (length (request e)) (not_when (nat_lt most_bytes (length (request e))) otlp.TooLong (left_none (length_fault e) None (right_none (early_fault e) _ none))) in
      record { length_fits = omega (arith, few) }

-- ---- the whole

less : (a b : ℕ) → nat_lt a b ≡ true → a < b
less a b e = grind (arith, nat_tests)

all_ascii : (bs : List ℕ) → list_all (λ b. nat_lt b 128) bs ≡ true → (i : ℕ) → slice_index bs i < 128
all_ascii [] e i = omega arith
all_ascii (b ∷ bs) e zero = less b 128 (first_holds _ _ e)
all_ascii (b ∷ bs) e (suc i) = all_ascii bs (second_holds (nat_lt b 128) _ e) i

stream_runs : (start : ℕ) (r : List ExportPoint) → AllByRecursion (IsSent start) r → AllByRecursion (IsRun (IsSent start) (λ p. p.stream)) (runs of_one_stream r)
stream_runs start r all = runs_hold (IsSent start) (λ p. p.stream) of_one_stream (λ x y e. exact_streams x.stream y.stream e) r all

scope_run : (start time : ℕ) (r : List ExportPoint) → IsRun (IsSent start) (λ p. p.stream.scope) r → IsScopeRun start time r
scope_run start time [] h = absurd h
scope_run start time (p ∷ ps) h = (h, stream_runs start (p ∷ ps) (all_of (λ q. IsSent start q × (q.stream.scope ≡ p.stream.scope)) (IsSent start) (λ q x. x.0) (p ∷ ps) h))

all_sound : (e : Export) → AllByRecursion (λ p. IsSound p.stream.shape p.payload) e.points
all_sound e = each_of (λ p. IsSound p.stream.shape p.payload) e.points (sound_points e.start e.time e.points e.sound)

sent : (e : Export) → IsExport e → IsSaid e → otlp_fault e ≡ None → AllByRecursion (IsSent e.start) e.points
sent e fits said none = all_sent e.start e.points (all_sound e) fits.points said.points (no_long_text e none).1 (few_attributes e none)

heard : (e : Export) → IsExport e → IsSaid e → otlp_fault e ≡ None → exports_read (request e) ≡ exports_in (heard_request e)
unfolding exports_read
heard e fits said none =
    let runs_are = runs_hold (IsSent e.start) (λ p. p.stream.scope) of_one_scope (λ x y f. exact_texts x.stream.scope y.stream.scope f) e.points (sent e fits said none) in
    let scope_runs = all_of (IsRun (IsSent e.start) (λ p. p.stream.scope)) (IsScopeRun e.start e.time) (scope_run e.start e.time) (runs of_one_scope e.points) runs_are in
    ap (λ (r : Result Request RequestFault). and_then r exports_in)
    (request_heard e fits.start fits.time (instance_key, IsUtf8-from_ascii _ (hyphenated_ascii lower e.writer.instance (inl refl))) (service_key, fits.writer.service) (no_long_text e none).0 scope_runs (short_request e none))
  where
    instance_key : IsUtf8 (codes "service.instance.id")
    instance_key = IsUtf8-from_ascii (codes "service.instance.id") (all_ascii (codes "service.instance.id") refl)

    service_key : IsUtf8 (codes "service.name")
    service_key = IsUtf8-from_ascii (codes "service.name") (all_ascii (codes "service.name") refl)

abbrev left_of : Reading → Reading
left_of r = record { scopes = r.scopes; metrics = r.metrics; points = r.points; placed = [] }

read_back : (e : Export) → IsExport e → IsSaid e → otlp_fault e ≡ None → exports_in (heard_request e) ≡ Ok (said_of e ∷ [])
unfolding exports_in add_resource walk
read_back e fits said none =
    let w = e.writer in
    let rs = map (heard_scope e.start e.time) (runs of_one_scope e.points) in
    let g = scopes_gain e.start e.time nothing_read e.points (all_back e.start e.points (sent e fits said none) (no_bad_bounds e none) (all_sound e)) in
    let reading = g.reading in
    ap (λ (x : Result WriterId RequestFault). and_then (and_then (and_then x (λ (v : WriterId). and_then (walk (add_scope rs) nothing_read rs) (λ (r : Reading). exports_of v [] r))) (λ (p : Progress). Ok p)) (λ (p : Progress). Ok p.1)) (writer_back 0 w fits.writer)
    ∙ ap (λ (x : Result Reading RequestFault). and_then (and_then (and_then x (λ (r : Reading). exports_of w [] r)) (λ (p : Progress). Ok p)) (λ (p : Progress). Ok p.1)) g.so
    ∙ ap (λ (gs : List Group). and_then (and_then (and_then (walk (add_export w) [] gs) (λ (more : List Said). Ok (left_of reading, more))) (λ (p : Progress). Ok p)) (λ (p : Progress). Ok p.1)) (ap groups_of g.placed_are ∙ one_group e.start e.time e.points said.some)
    ∙ ap (λ (o : Option ExportFault). and_then (and_then (and_then (and_then (and_then (built 0 (said_of e) o) (λ (s : Said). Ok (s ∷ []))) (λ (l : List Said). Ok l)) (λ (more : List Said). Ok (left_of reading, more))) (λ (p : Progress). Ok p)) (λ (p : Progress). Ok p.1)) e.sound

pub comes_back : (e : Export) → IsExport e → IsSaid e → otlp_fault e ≡ None → exports_read (request e) ≡ Ok (said_of e ∷ [])
comes_back e fits said none = heard e fits said none ∙ read_back e fits said none
