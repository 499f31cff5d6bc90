-- Attributes and points come back from what a request says of them.
use Rattle.std.proofs.Common.{◌≡◌, ℕ, zero, suc, ◌+◌, ◌<◌, cond, Bool, true, false, List, [], ◌∷◌, ◌++◌, length, map, Option, Some, None, Result, Ok, Err, ℤ, refl, sym, ap, ◌∙◌, subst, append_assoc, append-nil, arith}
use Rattle.std.specs.Prelude.{◌==◌, ◌&&◌, ◌||◌, nat_lt, not, IsTrue}
use Rattle.std.specs.Cmp.Lexicographic.{slice_cmp, texts_ties}
use Rattle.std.specs.FinMap.Entries.{is_sorted, below_all}
use Rattle.std.specs.Int.{w64}
use Rattle.std.specs.List.{AllByRecursion, list_all}
use Rattle.std.specs.Ordering.{is_eq, is_lt, nat_cmp}
use Rattle.std.specs.declared.cmp.Ordering.{Ordering}
use Rattle.std.specs.declared.cmp.Ordering.TheVariants.{Less, Equal, Greater}
use Rattle.std.proofs.lemmas.Bool.Decides.{nat_tests}
use Rattle.std.proofs.lemmas.Int.{to_z-of_z}
use Rattle.std.proofs.lemmas.List.{length-append, length-map}
use Rattle.attr_kit.proofs.Putting.{attributes_rising}
use Rattle.attr_kit.specs.Attributes.{has_text}
use Rattle.attr_kit.specs.Exact.{first_holds, second_holds}
use Rattle.attr_kit.specs.Orders.{text_cmp}
use Rattle.attr_kit.specs.Putting.{attributes_of}
use Rattle.attr_kit.specs.declared.attr_value.AttrValue.{AttrValue}
use Rattle.attr_kit.specs.declared.attr_value.AttrValue.TheVariants as values
use Rattle.point_kit.specs.declared.export_point.ExportPoint.{ExportPoint}
use Rattle.point_kit.specs.declared.payload.Payload.{Payload}
use Rattle.point_kit.specs.declared.payload.Payload.TheVariants as payloads
use Rattle.point_kit.specs.declared.shape.Shape.TheVariants as shapes
use Rattle.point_kit.specs.declared.stream.Stream.{Stream}
use Rattle.otlp_kit.specs.Doubles.{double}
use Rattle.otlp_kit.specs.Exact.{exact}
use Rattle.otlp_kit.specs.Fields.{and_then, refused}
use Rattle.otlp_kit.specs.Reading.{refuse_when, or_zero, content_value, pair_of, attribute, is_twice, add_attribute, attributes, placed, number_placed, gauge_point, sum_point, whole, add_bound, bounds_of, range_of, buckets_of, named, histogram_payload, histogram_point}
use Rattle.otlp_kit.specs.Refusals.{rises}
use Rattle.otlp_kit.specs.Sent.{IsInteger, IsExact, IsExactRange}
use Rattle.otlp_kit.proofs.Sendable.{AreFew, IsHistogram}
use Rattle.otlp_kit.specs.Walks.{walk, walk_from}
use Rattle.otlp_kit.specs.declared.placed.Placed.{Placed}
use Rattle.otlp_kit.specs.declared.request_fault.RequestFault.{RequestFault}
use Rattle.otlp_kit.specs.declared.request_fault.RequestReason.TheVariants as reasons
use Rattle.otlp_kit.proofs.Exactly.{exact_back}
use Rattle.otlp_kit.proofs.Hearing.{any_of, heard_pair, heard_number}
use Rattle.otlp_kit.proofs.HearingPoints.{heard_histogram, least_of, greatest_of}
use Rattle.otlp_kit.proofs.Saying.{given_number}

-- ---- attributes

pub holds : (b : Bool) → IsTrue b → b ≡ true
holds b h = h

pub equal_self : (n : ℕ) → (n == n) ≡ true
equal_self n = grind (arith, nat_tests)

not_empty : (n : ℕ) → (suc n == 0) ≡ false
not_empty n = grind (arith, nat_tests)

not_zero : (n : ℕ) → 0 < n → (n == 0) ≡ false
not_zero n h = grind (arith, nat_tests)

less : (r : Ordering) → is_lt r ≡ true → r ≡ Less
less Less h = refl
less Equal h = cc
less Greater h = cc

below_at : (k : List ℕ) (qs : List (List ℕ × AttrValue)) (p : List ℕ × AttrValue) (rs : List (List ℕ × AttrValue)) → below_all (slice_cmp nat_cmp) k (qs ++ p ∷ rs) ≡ true → text_cmp k p.0 ≡ Less
below_at k [] p rs h = less (text_cmp k p.0) (first_holds _ _ h)
below_at k (q ∷ qs) p rs h = below_at k qs p rs (second_holds (is_lt (text_cmp k q.0)) _ h)

-- of keys that rise no earlier one is equal
once : (qs : List (List ℕ × AttrValue)) (p : List ℕ × AttrValue) (rs : List (List ℕ × AttrValue)) → is_sorted (slice_cmp nat_cmp) (qs ++ p ∷ rs) ≡ true → is_twice (map heard_pair (qs ++ p ∷ rs)) (length qs) (heard_pair p) ≡ false
once [] p rs h = refl
once (q ∷ qs) p rs h =
    let below = below_at q.0 qs p rs (first_holds _ _ h) in
    ap (λ (b : Bool). b || is_twice (map heard_pair (qs ++ p ∷ rs)) (length qs) (heard_pair p)) (texts_ties q.0 p.0 ∙ ap is_eq below)
    ∙ once qs p rs (second_holds (below_all (slice_cmp nat_cmp) q.0 (qs ++ p ∷ rs)) _ h)

value_back : (v : AttrValue) → content_value (Some (any_of v)) ≡ Some v
value_back (values.Text t) = refl
value_back (values.Truth b) = refl
value_back (values.Whole n) = refl

attribute_back : (n : ℕ) (key : List ℕ) (v : AttrValue) → has_text key ≡ true → attribute n false (heard_pair (key, v)) ≡ Ok (key, v)
attribute_back n [] v h = cc
attribute_back n (b ∷ bs) v h =
    ap (λ (t : Bool). cond t (Err (refused reasons.EmptyKey n)) (pair_of n (b ∷ bs) (content_value (Some (any_of v))))) (not_empty (length bs))
    ∙ ap (pair_of n (b ∷ bs)) (value_back v)

abbrev pub Pairs : Type 0
Pairs = List (List ℕ × AttrValue)

walked : (n : ℕ) (ps qs rs : Pairs) → ps ≡ qs ++ rs → is_sorted (slice_cmp nat_cmp) ps ≡ true → list_all (λ p. has_text p.0) rs ≡ true → walk_from (add_attribute n (map heard_pair ps)) (length qs) qs (map heard_pair rs) ≡ Ok (qs ++ rs)
walked n ps qs [] e h named = ap (λ (l : Pairs). Ok l) (sym (append-nil qs))
walked n ps qs (p ∷ rs) e h named =
    let size : length (qs ++ p ∷ []) ≡ length qs + 1 = length-append qs (p ∷ []) in
    let all : ps ≡ (qs ++ p ∷ []) ++ rs = e ∙ sym (append_assoc qs (p ∷ []) rs) in
    let sorted : is_sorted (slice_cmp nat_cmp) (qs ++ p ∷ rs) ≡ true = subst (λ (l : Pairs). is_sorted (slice_cmp nat_cmp) l ≡ true) e h in
    let not_twice : is_twice (map heard_pair ps) (length qs) (heard_pair p) ≡ false = ap (λ (l : Pairs). is_twice (map heard_pair l) (length qs) (heard_pair p)) e ∙ once qs p rs sorted in
    let later = λ (l : Pairs). walk_from (add_attribute n (map heard_pair ps)) (length qs + 1) l (map heard_pair rs) in
    ap (λ (t : Bool). and_then (and_then (attribute n t (heard_pair p)) (λ (x : List ℕ × AttrValue). Ok (qs ++ x ∷ []))) later) not_twice
    ∙ ap (λ (r : Result (List ℕ × AttrValue) RequestFault). and_then (and_then r (λ (x : List ℕ × AttrValue). Ok (qs ++ x ∷ []))) later) (attribute_back n p.0 p.1 (first_holds _ _ named))
    ∙ ap (λ (i : ℕ). walk_from (add_attribute n (map heard_pair ps)) i (qs ++ p ∷ []) (map heard_pair rs)) (sym size)
    ∙ walked n ps (qs ++ p ∷ []) rs all h (second_holds (has_text p.0) _ named)
    ∙ ap (λ (l : Pairs). Ok l) (append_assoc qs (p ∷ []) rs)

pub attributes_back : (n : ℕ) (ps : Pairs) → AreFew ps → attributes n (map heard_pair ps) ≡ Ok ps
unfolding attributes walk
attributes_back n ps few =
    let are = few.0 in
    let sorted = holds _ are.rising in
    let later = λ (many : Bool). and_then (refuse_when many (refused reasons.TooManyAttributes n)) (λ (u : Unit {0}). and_then (walk_from (add_attribute n (map heard_pair ps)) 0 [] (map heard_pair ps)) (λ (l : Pairs). Ok (attributes_of l))) in
    ap (λ (size : ℕ). later (nat_lt 128 size)) (length-map ps heard_pair)
    ∙ ap later few.1
    ∙ ap (λ (r : Result Pairs RequestFault). and_then r (λ (l : Pairs). Ok (attributes_of l))) (walked n ps [] ps refl sorted (holds _ are.named))
    ∙ ap (λ (l : Pairs). Ok l) (attributes_rising ps sorted)

-- ---- points

pub or_zero_given : (n : ℕ) → or_zero (given_number n) ≡ n
or_zero_given zero = refl
or_zero_given (suc n) = refl

abbrev pub point_with : Stream → Pairs → Payload → ExportPoint
point_with stream attrs payload = record { stream = stream; attrs = attrs; payload = payload }

abbrev pub placed_with : ℕ → ℕ → ExportPoint → Placed
placed_with start time p = record { start = start; time = time; point = p }

number_back : (n start time : ℕ) (s : Stream) (value : ℤ) (attrs : Pairs) (payload : Payload) → AreFew attrs → number_placed n s (heard_number start time value attrs) payload ≡ Ok (placed_with start time (point_with s attrs payload))
number_back n start time s value attrs payload are =
    ap (λ (r : Result Pairs RequestFault). and_then r (λ (l : Pairs). Ok (placed (given_number start) (given_number time) s l payload))) (attributes_back n attrs are)
    ∙ (λ i. Ok (placed_with (or_zero_given start i) (or_zero_given time i) (point_with s attrs payload)))

pub gauge_back : (n start time : ℕ) (s : Stream) (value : ℤ) (attrs : Pairs) → IsInteger value → AreFew attrs → gauge_point n s (heard_number start time value attrs) ≡ Ok (placed_with start time (point_with s attrs (payloads.Gauge value)))
unfolding gauge_point
gauge_back n start time s value attrs fits are =
    ap (λ (z : ℤ). number_placed n s (heard_number start time value attrs) (payloads.Gauge z)) (to_z-of_z w64 value fits)
    ∙ number_back n start time s value attrs (payloads.Gauge value) are

is_started : (n start : ℕ) → 0 < start → refuse_when (or_zero (given_number start) == 0) (refused reasons.UnknownStart n) ≡ Ok _
is_started n start h =
    ap (λ (k : ℕ). refuse_when (k == 0) (refused reasons.UnknownStart n)) (or_zero_given start)
    ∙ ap (λ (b : Bool). refuse_when b (refused reasons.UnknownStart n)) (not_zero start h)

pub sum_back : (n start time : ℕ) (s : Stream) (value : ℤ) (attrs : Pairs) → 0 < start → IsInteger value → AreFew attrs → sum_point n s (heard_number start time value attrs) ≡ Ok (placed_with start time (point_with s attrs (payloads.Sum value)))
unfolding sum_point
sum_back n start time s value attrs some fits are =
    let said = heard_number start time value attrs in
    ap (λ (r : Result (Unit {0}) RequestFault). and_then r (λ (u : Unit {0}). and_then (whole n said.value) (λ (z : ℤ). number_placed n s said (payloads.Sum z)))) (is_started n start some)
    ∙ ap (λ (z : ℤ). number_placed n s said (payloads.Sum z)) (to_z-of_z w64 value fits)
    ∙ number_back n start time s value attrs (payloads.Sum value) are

bounds_walked : (n i : ℕ) (cs bs : List ℤ) → AllByRecursion IsExact bs → walk_from (add_bound n) i cs (map double bs) ≡ Ok (cs ++ bs)
bounds_walked n i cs [] all = ap (λ (l : List ℤ). Ok l) (sym (append-nil cs))
bounds_walked n i cs (b ∷ bs) all =
    ap (λ (r : Result ℤ RequestFault). and_then (and_then r (λ (z : ℤ). Ok (cs ++ z ∷ []))) (λ (l : List ℤ). walk_from (add_bound n) (i + 1) l (map double bs))) (exact_back n b all.0)
    ∙ bounds_walked n (i + 1) (cs ++ b ∷ []) bs all.1
    ∙ ap (λ (l : List ℤ). Ok l) (append_assoc cs (b ∷ []) bs)

bounds_back : (n : ℕ) (bs : List ℤ) → AllByRecursion IsExact bs → rises bs ≡ true → bounds_of n (map double bs) ≡ Ok bs
unfolding walk
bounds_back n bs all up =
    ap (λ (r : Result (List ℤ) RequestFault). and_then r (λ (l : List ℤ). and_then (refuse_when (not (rises l)) (refused reasons.BadBounds n)) (λ (u : Unit {0}). Ok l))) (bounds_walked n 0 [] bs all)
    ∙ ap (λ (b : Bool). and_then (refuse_when (not b) (refused reasons.BadBounds n)) (λ (u : Unit {0}). Ok bs)) up

range_back : (n : ℕ) (range : Option (ℤ × ℤ)) → IsExactRange range → range_of n (least_of range) (greatest_of range) ≡ Ok range
range_back n None fits = refl
range_back n (Some r) fits =
    ap (λ (x : Result ℤ RequestFault). and_then x (λ (a : ℤ). and_then (exact n (double r.1)) (λ (b : ℤ). Ok (Some (a, b))))) (exact_back n r.0 fits.0)
    ∙ ap (λ (x : Result ℤ RequestFault). and_then x (λ (b : ℤ). Ok (Some (r.0, b)))) (exact_back n r.1 fits.1)

buckets_back : (start time : ℕ) (attrs : Pairs) (bounds : List ℤ) (count : ℕ) (sum : ℤ) (buckets : List ℕ) (range : Option (ℤ × ℤ)) → 0 < length buckets → buckets_of (heard_histogram start time attrs bounds count sum buckets range) ≡ buckets
buckets_back start time attrs bounds count sum buckets range some =
    ap (λ (b : Bool). cond (b && (length (map double bounds) == 0)) (or_zero (given_number count) ∷ []) buckets) (not_zero (length buckets) some)

payload_back : (n start time : ℕ) (attrs : Pairs) (bounds : List ℤ) (count : ℕ) (sum : ℤ) (buckets : List ℕ) (range : Option (ℤ × ℤ)) → IsHistogram bounds count sum buckets range → rises bounds ≡ true → 0 < length buckets → histogram_payload n (heard_histogram start time attrs bounds count sum buckets range) ≡ Ok (bounds, payloads.Hist count sum buckets range)
unfolding histogram_payload
payload_back n start time attrs bounds count sum buckets range fits up some =
    let said = heard_histogram start time attrs bounds count sum buckets range in
    ap (λ (x : Result ℤ RequestFault). and_then x (λ (z : ℤ). and_then (bounds_of n said.bounds) (λ (bs : List ℤ). and_then (range_of n said.least said.greatest) (λ (r : Option (ℤ × ℤ)). Ok (bs, payloads.Hist (or_zero said.count) z (buckets_of said) r))))) (exact_back n sum fits.of_sum)
    ∙ ap (λ (x : Result (List ℤ) RequestFault). and_then x (λ (bs : List ℤ). and_then (range_of n said.least said.greatest) (λ (r : Option (ℤ × ℤ)). Ok (bs, payloads.Hist (or_zero said.count) sum (buckets_of said) r)))) (bounds_back n bounds fits.of_bounds up)
    ∙ ap (λ (x : Result (Option (ℤ × ℤ)) RequestFault). and_then x (λ (r : Option (ℤ × ℤ)). Ok (bounds, payloads.Hist (or_zero said.count) sum (buckets_of said) r))) (range_back n range fits.of_range)
    ∙ (λ i. Ok (bounds, payloads.Hist (or_zero_given count i) sum (buckets_back start time attrs bounds count sum buckets range some i) range))

pub histogram_back : (n start time : ℕ) (scope name unit : List ℕ) (attrs : Pairs) (bounds : List ℤ) (count : ℕ) (sum : ℤ) (buckets : List ℕ) (range : Option (ℤ × ℤ)) → 0 < start → AreFew attrs → IsHistogram bounds count sum buckets range → rises bounds ≡ true → 0 < length buckets → histogram_point n scope name unit (heard_histogram start time attrs bounds count sum buckets range) ≡ Ok (placed_with start time (point_with (named scope name unit (shapes.Histogram bounds)) attrs (payloads.Hist count sum buckets range)))
unfolding histogram_point
histogram_back n start time scope name unit attrs bounds count sum buckets range started are fits up some =
    let said = heard_histogram start time attrs bounds count sum buckets range in
    let payload = payloads.Hist count sum buckets range in
    ap (λ (r : Result (Unit {0}) RequestFault). and_then r (λ (u : Unit {0}). and_then (histogram_payload n said) (λ (h : List ℤ × Payload). and_then (attributes n said.attributes) (λ (l : Pairs). Ok (placed said.start said.time (named scope name unit (shapes.Histogram h.0)) l h.1))))) (is_started n start started)
    ∙ ap (λ (r : Result (List ℤ × Payload) RequestFault). and_then r (λ (h : List ℤ × Payload). and_then (attributes n said.attributes) (λ (l : Pairs). Ok (placed said.start said.time (named scope name unit (shapes.Histogram h.0)) l h.1)))) (payload_back n start time attrs bounds count sum buckets range fits up some)
    ∙ ap (λ (r : Result Pairs RequestFault). and_then r (λ (l : Pairs). Ok (placed said.start said.time (named scope name unit (shapes.Histogram bounds)) l payload))) (attributes_back n attrs are)
    ∙ (λ i. Ok (placed_with (or_zero_given start i) (or_zero_given time i) (point_with (named scope name unit (shapes.Histogram bounds)) attrs payload)))
