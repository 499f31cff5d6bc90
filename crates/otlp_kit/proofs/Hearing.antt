-- What the crate's own messages say: attributes and points.
use Rattle.std.proofs.Common.{◌≡◌, ℕ, ◌<◌, ◌≤◌, ◌^◌, cond, Bool, true, false, List, [], ◌∷◌, ◌++◌, map, Option, Some, None, Result, Ok, Err, ℤ, refl, ap, ◌∙◌, arith}
use Rattle.std.specs.Int.{cast_unsigned, w64}
use Rattle.std.specs.List.{AllByRecursion, flat_map}
use Rattle.std.specs.Str.{IsUtf8}
use Rattle.std.proofs.Math.Facts.{Fits-of_z}
use Rattle.std.proofs.lemmas.Int.{to_z-of_z}
use Rattle.std.proofs.lemmas.Str.{is_utf8-from_IsUtf8}
use Rattle.attr_kit.specs.declared.attr_value.AttrValue.{AttrValue}
use Rattle.attr_kit.specs.declared.attr_value.AttrValue.TheVariants as values
use Rattle.otlp_kit.specs.Wire.{block, fixed, fixed_unless_zero}
use Rattle.otlp_kit.specs.Request.{any_value, key_value, attribute, attributes, window, number_point}
use Rattle.otlp_kit.specs.Fields.{and_then, refused}
use Rattle.otlp_kit.specs.Contents.{text_of}
use Rattle.otlp_kit.specs.Limits.{is_long}
use Rattle.otlp_kit.specs.Messages.{any_step, no_value, key_value_step, no_key_value, number_point_step, no_number_point}
use Rattle.otlp_kit.specs.Sent.{IsNumber, IsInteger, IsValue, IsPair}
use Rattle.otlp_kit.specs.declared.key_value.AnyContent.{AnyContent}
use Rattle.otlp_kit.specs.declared.key_value.AnyContent.TheVariants as anys
use Rattle.otlp_kit.specs.declared.key_value.AnyValue.{AnyValue}
use Rattle.otlp_kit.specs.declared.key_value.KeyValue.{KeyValue}
use Rattle.otlp_kit.specs.declared.number_point.Number.{Number}
use Rattle.otlp_kit.specs.declared.number_point.Number.TheVariants as numbers
use Rattle.otlp_kit.specs.declared.number_point.NumberPoint.{NumberPoint}
use Rattle.otlp_kit.specs.declared.request_fault.RequestFault.{RequestFault}
use Rattle.otlp_kit.specs.declared.request_fault.RequestReason.TheVariants as reasons
use Rattle.otlp_kit.proofs.Sendable.{IsName}
use Rattle.otlp_kit.proofs.Wiring.{span, IsFieldNumber}
use Rattle.otlp_kit.proofs.Saying.{IsShort, short_front, short_behind, short_block, Says, says_then, says_number, says_fixed, says_block, says_message, says_messages, says_fixed_unless_zero, given_number}

pub numbered : (field : ℕ) → 1 ≤ field → field ≤ 12 → IsFieldNumber field
numbered field some few = record { least = some; most = omega arith }

pub texts : (place : ℕ) (t : List ℕ) → IsUtf8 t → text_of (span place t) ≡ Ok t
texts place t h = ap (λ (b : Bool). cond b (Ok t) (Err (refused reasons.NotText place))) (is_utf8-from_IsUtf8 t h)

-- of a text that has a limit
pub names : (at place : ℕ) (t : List ℕ) → IsName t → and_then (text_of (span place t)) (λ u. cond (is_long u) (Err (refused reasons.TooLongText at)) (Ok u)) ≡ Ok t
names at place t h =
    ap (λ (r : Result (List ℕ) RequestFault). and_then r (λ (u : List ℕ). cond (is_long u) (Err (refused reasons.TooLongText at)) (Ok u))) (texts place t h.0)
    ∙ ap (λ (b : Bool). cond b (Err (refused reasons.TooLongText at)) (Ok t)) h.1

abbrev pub any_of : AttrValue → AnyContent
any_of (values.Text t) = anys.Text t
any_of (values.Truth b) = anys.Truth b
any_of (values.Whole n) = anys.Whole n

abbrev pub value_with : AnyContent → AnyValue
value_with c = record { content = Some c }

abbrev pub heard_value : AttrValue → AnyValue
heard_value v = value_with (any_of v)

pub bits_fit : (z : ℤ) → IsInteger z → cast_unsigned w64 z < 2 ^ 64
bits_fit z fits = omega (arith, Fits-of_z {w = w64} {z = z} fits)

pub says_value : (v : AttrValue) → IsValue v → IsShort (any_value v) → Says any_step (any_value v) no_value (heard_value v)
unfolding any_step
says_value (values.Text t) fits short =
    says_block any_step 1 t no_value (value_with (anys.Text t)) (numbered 1 (omega arith) (omega arith)) (short_block 1 t short)
    (λ at place. ap (λ (r : Result (List ℕ) RequestFault). and_then (and_then r (λ (t : List ℕ). Ok (anys.Text t))) (λ (c : AnyContent). Ok (value_with c))) (texts place t fits))
says_value (values.Truth true) fits short = says_number any_step 2 1 no_value (value_with (anys.Truth true)) (numbered 2 (omega arith) (omega arith)) (omega arith) (λ at. refl)
says_value (values.Truth false) fits short = says_number any_step 2 0 no_value (value_with (anys.Truth false)) (numbered 2 (omega arith) (omega arith)) (omega arith) (λ at. refl)
says_value (values.Whole n) fits short =
    says_number any_step 3 (cast_unsigned w64 n) no_value (value_with (anys.Whole n)) (numbered 3 (omega arith) (omega arith)) (bits_fit n fits)
    (λ at. ap (λ (z : ℤ). Ok (value_with (anys.Whole z))) (to_z-of_z w64 n fits))

abbrev pub pair_with : List ℕ → Option AnyValue → KeyValue
pair_with key value = record { key = Some key; value = value }

abbrev pub heard_pair : List ℕ × AttrValue → KeyValue
heard_pair p = pair_with p.0 (Some (heard_value p.1))

pub says_pair : (p : List ℕ × AttrValue) → IsPair p → IsShort (key_value p) → Says key_value_step (key_value p) no_key_value (heard_pair p)
unfolding key_value key_value_step
says_pair p fits short =
    let value = any_value p.1 in
    let short_key = short_block 1 p.0 (short_front (block 1 p.0) (block 2 value) short) in
    let short_value = short_block 2 value (short_behind (block 1 p.0) (block 2 value) short) in
    says_then key_value_step (block 1 p.0) (block 2 value) no_key_value (pair_with p.0 None) (heard_pair p)
    (says_block key_value_step 1 p.0 no_key_value (pair_with p.0 None) (numbered 1 (omega arith) (omega arith)) short_key
    (λ at place. ap (λ (r : Result (List ℕ) RequestFault). and_then r (λ (t : List ℕ). Ok (pair_with t None))) (texts place p.0 fits.0)))
    (says_message key_value_step any_step no_value (heard_value p.1) 2 value (pair_with p.0 None) (λ (v : AnyValue). pair_with p.0 (Some v)) (numbered 2 (omega arith) (omega arith)) (λ at place. refl) short_value (says_value p.1 fits.1 short_value))

pub all_pairs : (ps : List (List ℕ × AttrValue)) → AllByRecursion IsPair ps → AllByRecursion (λ p. IsShort (key_value p) → Says key_value_step (key_value p) no_key_value (heard_pair p)) ps
all_pairs [] all = _
all_pairs (p ∷ ps) all = (says_pair p all.0, all_pairs ps all.1)

-- NumberDataPoint
abbrev pub number_with : Option ℕ → Option ℕ → Option Number → List KeyValue → NumberPoint
number_with start time value attrs = record { start = start; time = time; value = value; attributes = attrs; flags = None }

abbrev pub heard_number : ℕ → ℕ → ℤ → List (List ℕ × AttrValue) → NumberPoint
heard_number start time value attrs = number_with (given_number start) (given_number time) (Some (numbers.Whole (cast_unsigned w64 value))) (map heard_pair attrs)

pub says_number_point : (start time : ℕ) (value : ℤ) (attrs : List (List ℕ × AttrValue)) → IsNumber start → IsNumber time → IsInteger value → AllByRecursion IsPair attrs → IsShort (number_point start time value attrs) → Says number_point_step (number_point start time value attrs) no_number_point (heard_number start time value attrs)
unfolding number_point window attributes number_point_step
says_number_point start time value attrs start_fits time_fits value_fits fits short =
    let step = number_point_step in
    let bits = cast_unsigned w64 value in
    let s = given_number start in
    let t = given_number time in
    let w = fixed_unless_zero 2 start ++ fixed_unless_zero 3 time in
    let v = fixed 6 bits in
    let a = flat_map (attribute 7) attrs in
    let short_attrs = short_behind v a (short_behind w (v ++ a) short) in
    says_then step w (v ++ a) no_number_point (number_with s t None []) (heard_number start time value attrs)
    (says_then step (fixed_unless_zero 2 start) (fixed_unless_zero 3 time) no_number_point (number_with s None None []) (number_with s t None [])
    (says_fixed_unless_zero step 2 start (λ (x : Option ℕ). number_with x None None []) (numbered 2 (omega arith) (omega arith)) start_fits (λ at n. refl))
    (says_fixed_unless_zero step 3 time (λ (x : Option ℕ). number_with s x None []) (numbered 3 (omega arith) (omega arith)) time_fits (λ at n. refl)))
    (says_then step v a (number_with s t None []) (number_with s t (Some (numbers.Whole bits)) []) (heard_number start time value attrs)
    (says_fixed step 6 bits (number_with s t None []) (number_with s t (Some (numbers.Whole bits)) []) (numbered 6 (omega arith) (omega arith)) (bits_fit value value_fits) (λ at. refl))
    (says_messages step key_value_step no_key_value 7 key_value heard_pair (λ (l : List KeyValue). number_with s t (Some (numbers.Whole bits)) l) (numbered 7 (omega arith) (omega arith)) (λ at place bs bytes. refl) attrs (all_pairs attrs fits) short_attrs))
