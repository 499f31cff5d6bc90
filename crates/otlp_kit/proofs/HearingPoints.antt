-- What the crate's own messages say: histograms, and points of each kind.
use Rattle.std.proofs.Common.{ℕ, List, [], ◌∷◌, ◌++◌, map, Option, Some, None, Result, Ok, ℤ, refl, ap, ◌∙◌, arith}
use Rattle.std.specs.List.{AllByRecursion, flat_map}
use Rattle.attr_kit.specs.declared.attr_value.AttrValue.{AttrValue}
use Rattle.otlp_kit.specs.Wire.{block, eight, fixed, fixed_unless_zero}
use Rattle.otlp_kit.specs.Doubles.{double}
use Rattle.otlp_kit.specs.Request.{key_value, attributes, window, explicit_bounds, range_fields, counts}
use Rattle.otlp_kit.specs.Fields.{and_then}
use Rattle.otlp_kit.specs.Messages.{key_value_step, no_key_value, histogram_point_step, no_histogram_point}
use Rattle.otlp_kit.specs.Sent.{IsNumber, IsExact, IsPair, IsExactRange}
use Rattle.otlp_kit.proofs.Sendable.{IsHistogram}
use Rattle.otlp_kit.specs.declared.field.Content.TheVariants as contents
use Rattle.otlp_kit.specs.declared.histogram_point.HistogramPoint.{HistogramPoint}
use Rattle.otlp_kit.specs.declared.key_value.KeyValue.{KeyValue}
use Rattle.otlp_kit.specs.declared.request_fault.RequestFault.{RequestFault}
use Rattle.otlp_kit.proofs.Exactly.{double_fits, packed, bounds_packed, all_doubles}
use Rattle.otlp_kit.proofs.Hearing.{numbered, heard_pair, all_pairs}
use Rattle.otlp_kit.proofs.Saying.{IsShort, short_front, short_behind, short_block, Says, says_nothing, says_then, says_fixed, says_block, says_messages, says_fixed_unless_zero, given_number}

abbrev pub histogram_with : Option ℕ → Option ℕ → Option ℕ → Option ℕ → List ℕ → List ℕ → List KeyValue → Option ℕ → Option ℕ → HistogramPoint
histogram_with start time count sum buckets bounds attrs least greatest =
    record { start = start; time = time; count = count; sum = sum; buckets = buckets; bounds = bounds; attributes = attrs; flags = None; least = least; greatest = greatest }

abbrev pub least_of : Option (ℤ × ℤ) → Option ℕ
least_of None = None
least_of (Some r) = Some (double r.0)

abbrev pub greatest_of : Option (ℤ × ℤ) → Option ℕ
greatest_of None = None
greatest_of (Some r) = Some (double r.1)

abbrev pub heard_histogram : ℕ → ℕ → List (List ℕ × AttrValue) → List ℤ → ℕ → ℤ → List ℕ → Option (ℤ × ℤ) → HistogramPoint
heard_histogram start time attrs bounds count sum buckets range =
    histogram_with (given_number start) (given_number time) (given_number count) (Some (double sum)) buckets (map double bounds) (map heard_pair attrs) (least_of range) (greatest_of range)

says_window : (start time : ℕ) → IsNumber start → IsNumber time → Says histogram_point_step (window start time) no_histogram_point (histogram_with (given_number start) (given_number time) None None [] [] [] None None)
unfolding window histogram_point_step
says_window start time start_fits time_fits =
    let s = given_number start in
    says_then histogram_point_step (fixed_unless_zero 2 start) (fixed_unless_zero 3 time) no_histogram_point (histogram_with s None None None [] [] [] None None) (histogram_with s (given_number time) None None [] [] [] None None)
    (says_fixed_unless_zero histogram_point_step 2 start (λ (x : Option ℕ). histogram_with x None None None [] [] [] None None) (numbered 2 (omega arith) (omega arith)) start_fits (λ at n. refl))
    (says_fixed_unless_zero histogram_point_step 3 time (λ (x : Option ℕ). histogram_with s x None None [] [] [] None None) (numbered 3 (omega arith) (omega arith)) time_fits (λ at n. refl))

says_counts : (s t : Option ℕ) (count : ℕ) (sum : ℤ) (buckets : List ℕ) → IsNumber count → IsExact sum → AllByRecursion IsNumber buckets → IsShort (counts count sum buckets) → Says histogram_point_step (counts count sum buckets) (histogram_with s t None None [] [] [] None None) (histogram_with s t (given_number count) (Some (double sum)) buckets [] [] None None)
unfolding counts histogram_point_step
says_counts s t count sum buckets count_fits sum_fits fits short =
    let step = histogram_point_step in
    let c = given_number count in
    let f4 = fixed_unless_zero 4 count in
    let f5 = fixed 5 (double sum) in
    let f6 = block 6 (flat_map eight buckets) in
    let short_buckets = short_block 6 (flat_map eight buckets) (short_behind f5 f6 (short_behind f4 (f5 ++ f6) short)) in
    let m = histogram_with s t c (Some (double sum)) [] [] [] None None in
    let l = histogram_with s t c (Some (double sum)) buckets [] [] None None in
    says_then step f4 (f5 ++ f6) (histogram_with s t None None [] [] [] None None) (histogram_with s t c None [] [] [] None None) l
    (says_fixed_unless_zero step 4 count (λ (x : Option ℕ). histogram_with s t x None [] [] [] None None) (numbered 4 (omega arith) (omega arith)) count_fits (λ at n. refl))
    (says_then step f5 f6 (histogram_with s t c None [] [] [] None None) m l
    (says_fixed step 5 (double sum) (histogram_with s t c None [] [] [] None None) m (numbered 5 (omega arith) (omega arith)) (double_fits sum sum_fits) (λ at. refl))
    (says_block step 6 (flat_map eight buckets) m l (numbered 6 (omega arith) (omega arith)) short_buckets
    (λ at place. ap (λ (r : Result (List ℕ) RequestFault). and_then r (λ (ns : List ℕ). Ok (histogram_with s t c (Some (double sum)) ns [] [] None None))) (packed at place buckets fits))))

says_bounds : (s t c x : Option ℕ) (buckets : List ℕ) (bounds : List ℤ) → AllByRecursion IsExact bounds → IsShort (explicit_bounds bounds) → Says histogram_point_step (explicit_bounds bounds) (histogram_with s t c x buckets [] [] None None) (histogram_with s t c x buckets (map double bounds) [] None None)
unfolding explicit_bounds histogram_point_step
says_bounds s t c x buckets [] fits short = says_nothing histogram_point_step (histogram_with s t c x buckets [] [] None None)
says_bounds s t c x buckets (b ∷ bs) fits short =
    let bytes = flat_map (λ z. eight (double z)) (b ∷ bs) in
    says_block histogram_point_step 7 bytes (histogram_with s t c x buckets [] [] None None) (histogram_with s t c x buckets (map double (b ∷ bs)) [] None None) (numbered 7 (omega arith) (omega arith)) (short_block 7 bytes short)
    (λ at place.
    let said = λ (l : List ℕ). histogram_point_step (histogram_with s t c x buckets [] [] None None) (record { at = at; number = 7; content = contents.Block (record { at = place; bytes = l }) }) in
    ap said (bounds_packed (b ∷ bs))
    ∙ ap (λ (r : Result (List ℕ) RequestFault). and_then r (λ (ns : List ℕ). Ok (histogram_with s t c x buckets ns [] None None))) (packed at place (map double (b ∷ bs)) (all_doubles (b ∷ bs) fits)))

says_range : (s t c x : Option ℕ) (buckets bounds : List ℕ) (attrs : List KeyValue) (range : Option (ℤ × ℤ)) → IsExactRange range → Says histogram_point_step (range_fields range) (histogram_with s t c x buckets bounds attrs None None) (histogram_with s t c x buckets bounds attrs (least_of range) (greatest_of range))
unfolding range_fields histogram_point_step
says_range s t c x buckets bounds attrs None fits = says_nothing histogram_point_step (histogram_with s t c x buckets bounds attrs None None)
says_range s t c x buckets bounds attrs (Some r) fits =
    let step = histogram_point_step in
    let m = histogram_with s t c x buckets bounds attrs None None in
    let l = histogram_with s t c x buckets bounds attrs (Some (double r.0)) None in
    let g = histogram_with s t c x buckets bounds attrs (Some (double r.0)) (Some (double r.1)) in
    says_then step (fixed 11 (double r.0)) (fixed 12 (double r.1)) m l g
    (says_fixed step 11 (double r.0) m l (numbered 11 (omega arith) (omega arith)) (double_fits r.0 fits.0) (λ at. refl))
    (says_fixed step 12 (double r.1) l g (numbered 12 (omega arith) (omega arith)) (double_fits r.1 fits.1) (λ at. refl))

says_attrs : (s t c x : Option ℕ) (buckets bounds : List ℕ) (attrs : List (List ℕ × AttrValue)) → AllByRecursion IsPair attrs → IsShort (attributes 9 attrs) → Says histogram_point_step (attributes 9 attrs) (histogram_with s t c x buckets bounds [] None None) (histogram_with s t c x buckets bounds (map heard_pair attrs) None None)
unfolding attributes histogram_point_step
says_attrs s t c x buckets bounds attrs fits short =
    says_messages histogram_point_step key_value_step no_key_value 9 key_value heard_pair (λ (l : List KeyValue). histogram_with s t c x buckets bounds l None None) (numbered 9 (omega arith) (omega arith)) (λ at place bs bytes. refl) attrs (all_pairs attrs fits) short

abbrev pub histogram_fields : ℕ → ℕ → List (List ℕ × AttrValue) → List ℤ → ℕ → ℤ → List ℕ → Option (ℤ × ℤ) → List ℕ
histogram_fields start time attrs bounds count sum buckets range =
    window start time ++ (counts count sum buckets ++ (explicit_bounds bounds ++ (attributes 9 attrs ++ range_fields range)))

pub says_histogram_point : (start time : ℕ) (attrs : List (List ℕ × AttrValue)) (bounds : List ℤ) (count : ℕ) (sum : ℤ) (buckets : List ℕ) (range : Option (ℤ × ℤ)) → IsNumber start → IsNumber time → AllByRecursion IsPair attrs → IsHistogram bounds count sum buckets range → IsShort (histogram_fields start time attrs bounds count sum buckets range) → Says histogram_point_step (histogram_fields start time attrs bounds count sum buckets range) no_histogram_point (heard_histogram start time attrs bounds count sum buckets range)
says_histogram_point start time attrs bounds count sum buckets range start_fits time_fits pairs fits short =
    let step = histogram_point_step in
    let s = given_number start in
    let t = given_number time in
    let c = given_number count in
    let x = Some (double sum) in
    let ds = map double bounds in
    let as_heard = map heard_pair attrs in
    let w = window start time in
    let n = counts count sum buckets in
    let b = explicit_bounds bounds in
    let a = attributes 9 attrs in
    let r = range_fields range in
    let short_n = short_behind w (n ++ (b ++ (a ++ r))) short in
    let short_b = short_behind n (b ++ (a ++ r)) short_n in
    let short_a = short_behind b (a ++ r) short_b in
    let m1 = histogram_with s t None None [] [] [] None None in
    let m2 = histogram_with s t c x buckets [] [] None None in
    let m3 = histogram_with s t c x buckets ds [] None None in
    let m4 = histogram_with s t c x buckets ds as_heard None None in
    let m5 = heard_histogram start time attrs bounds count sum buckets range in
    says_then step w (n ++ (b ++ (a ++ r))) no_histogram_point m1 m5 (says_window start time start_fits time_fits)
    (says_then step n (b ++ (a ++ r)) m1 m2 m5 (says_counts s t count sum buckets fits.of_count fits.of_sum fits.of_buckets (short_front n (b ++ (a ++ r)) short_n))
    (says_then step b (a ++ r) m2 m3 m5 (says_bounds s t c x buckets bounds fits.of_bounds (short_front b (a ++ r) short_b))
    (says_then step a r m3 m4 m5 (says_attrs s t c x buckets ds attrs pairs (short_front a r short_a))
    (says_range s t c x buckets ds as_heard range fits.of_range))))
