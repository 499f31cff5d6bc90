-- Whole numbers below 2 ^ 53 in size come back from their doubles, and numbers from their eight bytes.
use Rattle.std.proofs.Common.{◌≡◌, ℕ, zero, suc, ◌+◌, ◌-◌, ◌*◌, ◌/◌, ◌%◌, ◌^◌, ◌<◌, ◌≤◌, cond, Bool, true, false, List, [], ◌∷◌, ◌++◌, length, map, Result, Ok, Err, ℤ, pos, refl, ap, ◌∙◌, arith}
use Rattle.std.specs.Prelude.{negsuc, neg_ℤ, ◌==◌, ◌&&◌, ◌||◌, nat_lt, nat_le}
use Rattle.std.specs.Int.{from_le_bytes, to_le_bytes, w64}
use Rattle.std.specs.List.{AllByRecursion, flat_map}
use Rattle.std.proofs.Math.Nat.{pow-le-pow_right, mul-div_cancel, mul-add-mod_self_right}
use Rattle.std.proofs.lemmas.Bool.Decides.{nat_tests}
use Rattle.std.proofs.lemmas.List.{take_at, drop_at, length-append}
use Rattle.std.proofs.lemmas.Nat.{leading_top, pow_pos, pow-add, from_le_bytes-to_le_bytes_8}
use Rattle.otlp_kit.specs.Contents.{eights, eights_of}
use Rattle.otlp_kit.specs.Doubles.{bit_length, unit, goes_up, rounded_by, rounded_size, double_size, sign_bit, double}
use Rattle.otlp_kit.specs.Exact.{exact_size, signed, exact}
use Rattle.otlp_kit.specs.Fields.{and_then, refused}
use Rattle.otlp_kit.specs.Sent.{IsExact, IsNumber}
use Rattle.otlp_kit.specs.Wire.{eight}
use Rattle.otlp_kit.specs.declared.field.Content.TheVariants as contents
use Rattle.otlp_kit.specs.declared.request_fault.RequestFault.{RequestFault}
use Rattle.otlp_kit.specs.declared.request_fault.RequestReason.TheVariants as reasons
use Rattle.otlp_kit.proofs.Doubled.{digits_at}
use Rattle.otlp_kit.proofs.Wiring.{span}

is_less : (a b : ℕ) → a < b → nat_lt a b ≡ true
is_less a b h = grind (arith, nat_tests)

is_not_less : (a b : ℕ) → b ≤ a → nat_lt a b ≡ false
is_not_less a b h = grind (arith, nat_tests)

is_most : (a b : ℕ) → a ≤ b → nat_le a b ≡ true
is_most a b h = grind (arith, nat_tests)

is_not_most : (a b : ℕ) → b < a → nat_le a b ≡ false
is_not_most a b h = grind (arith, nat_tests)

is_equal : (a b : ℕ) → a ≡ b → (a == b) ≡ true
is_equal a b h = grind (arith, nat_tests)

is_below : (a b : ℕ) → a < b → (a == b) ≡ false
is_below a b h = grind (arith, nat_tests)

is_above : (a b : ℕ) → b < a → (a == b) ≡ false
is_above a b h = grind (arith, nat_tests)

abbrev divided : ℕ → ℕ → ℕ → Result ℕ RequestFault
divided n f gap = cond ((2 ^ 52 + f) % 2 ^ gap == 0) (Ok ((2 ^ 52 + f) / 2 ^ gap)) (Err (refused reasons.NotWhole n))

-- by the exponent and the digits behind the first
sized : (n m e f : ℕ) → e ≤ 52 → 2 ^ 52 + f ≡ m * 2 ^ (52 - e) → exact_size n (e + 1023) f ≡ Ok m
sized n m e f small digits =
    let v = 2 ^ (52 - e) in
    let gap : 1075 - (e + 1023) ≡ 52 - e = omega arith in
    let whole : (2 ^ 52 + f) % v ≡ 0 = ap (λ (d : ℕ). d % v) digits ∙ multiple m v in
    let size : (2 ^ 52 + f) / v ≡ m = ap (λ (d : ℕ). d / v) digits ∙ mul-div_cancel m (pow_pos (52 - e)) in
    (λ i. cond (is_above (e + 1023) 0 (omega arith) i && (f == 0)) (Ok 0)
    (cond (is_not_less (e + 1023) 1023 (omega arith) i || is_below (e + 1023) 2047 (omega arith) i) (Err (refused reasons.NotWhole n))
    (cond (is_not_less 1075 (e + 1023) (omega arith) i) (Err (refused reasons.Inexact n)) (divided n f (gap i)))))
    ∙ ap (λ (b : Bool). cond b (Ok ((2 ^ 52 + f) / v)) (Err (refused reasons.NotWhole n))) (is_equal ((2 ^ 52 + f) % v) 0 whole)
    ∙ ap (λ (k : ℕ). Ok k) size
  where
    nothing_left : (b : ℕ) → 0 % suc b ≡ 0
    nothing_left b = omega arith

    multiple : (a b : ℕ) → a * b % b ≡ 0
    multiple a zero = omega arith
    multiple a (suc b) = ap (λ (k : ℕ). k % suc b) (omega arith) ∙ mul-add-mod_self_right a (suc b) 0 ∙ nothing_left b

-- the parts of a double
record Parts (m bits : ℕ) : Type 0 where
  exponent : ℕ
  fraction : ℕ
  bits_are : bits ≡ (exponent + 1023) * 2 ^ 52 + fraction
  small : exponent ≤ 52
  rest : fraction < 2 ^ 52
  digits : 2 ^ 52 + fraction ≡ m * 2 ^ (52 - exponent)

below_53 : (m j : ℕ) → 2 ^ j ≤ m → m < 2 ^ 53 → j ≤ 52
below_53 m j lo hi = by (nat_le j 52) refl
  where
    by : (b : Bool) → nat_le j 52 ≡ b → j ≤ 52
    by true e = grind (arith, nat_tests)
    by false e =
        let more : 53 ≤ j = grind (arith, nat_tests) in
        let power : 2 ^ 53 ≤ 2 ^ j = pow-le-pow_right (omega arith) more in
        absurd (omega (arith, power))

-- a number of at most 53 digits keeps them all
pub not_rounded : (m : ℕ) → 0 < m → m < 2 ^ 53 → rounded_size m ≡ m
unfolding rounded_size
not_rounded m some small =
    let top = leading_top 64 m some (omega arith) in
    let few : top.0 ≤ 52 = below_53 m top.0 top.2 small in
    let lost : bit_length m - 53 ≡ 0 = omega (arith, top.1) in
    let one : unit m ≡ 1 = ap (λ (k : ℕ). 2 ^ k) lost in
    ap (λ (u : ℕ). rounded_by u m) one ∙ by_one
  where
    by_one : rounded_by 1 m ≡ m
    by_one =
        let kept : m / 1 ≡ m = omega arith in
        let nothing : m % 1 ≡ 0 = omega arith in
        (λ i. cond (goes_up 1 (kept i) (nothing i)) (kept i + 1) (kept i) * 1) ∙ omega arith

parts_of : (m : ℕ) → 0 < m → m < 2 ^ 53 → Parts m (double_size m)
unfolding double_size
parts_of m some small =
    let top = leading_top 64 m some (omega arith) in
    let e = top.0 in
    let few : e ≤ 52 = below_53 m e top.2 small in
    let less : bit_length m - 1 ≡ e = omega (arith, top.1) in
    let d = m * 2 ^ 52 / 2 ^ e in
    let digits = digits_at m e (omega arith) top.2 top.3 less in
    let least = digits.least in
    let most = digits.most in
    let total : 52 ≡ (52 - e) + e = omega arith in
    let power : 2 ^ 52 ≡ 2 ^ (52 - e) * 2 ^ e = ap (λ (k : ℕ). 2 ^ k) total ∙ pow-add 2 (52 - e) e in
    let product : m * 2 ^ 52 ≡ m * 2 ^ (52 - e) * 2 ^ e = ap (λ (k : ℕ). m * k) power ∙ grouped m (2 ^ (52 - e)) (2 ^ e) in
    let is : d ≡ m * 2 ^ (52 - e) = ap (λ (k : ℕ). k / 2 ^ e) product ∙ mul-div_cancel (m * 2 ^ (52 - e)) (pow_pos e) in
    record {
      exponent = e;
      fraction = d - 2 ^ 52;
      bits_are = ap (λ (k : ℕ). (k + 1023) * 2 ^ 52 + (m * 2 ^ 52 / 2 ^ k - 2 ^ 52)) less;
      small = few;
      rest = omega arith;
      digits = put_back d least ∙ is;
    }
  where
    grouped : (a b c : ℕ) → a * (b * c) ≡ a * b * c
    grouped a b c = omega arith

    put_back : (d : ℕ) → 2 ^ 52 ≤ d → 2 ^ 52 + (d - 2 ^ 52) ≡ d
    put_back d h = omega arith

-- the sign stands before the parts
with_sign_parts : (n m bits s e f : ℕ) → e ≤ 52 → f < 2 ^ 52 → 2 ^ 52 + f ≡ m * 2 ^ (52 - e) → s ≤ 1 → bits ≡ s * 2 ^ 63 + ((e + 1023) * 2 ^ 52 + f) → exact_size n (bits / 2 ^ 52 % 2048) (bits % 2 ^ 52) ≡ Ok m
with_sign_parts n m bits s e f few rest digits one is =
    let exponent : bits / 2 ^ 52 % 2048 ≡ e + 1023 = omega arith in
    let fraction : bits % 2 ^ 52 ≡ f = omega arith in
    (λ i. exact_size n (exponent i) (fraction i)) ∙ sized n m e f few digits

record Back (n m : ℕ) : Type 0 where
  above : exact_size n (double_size m / 2 ^ 52 % 2048) (double_size m % 2 ^ 52) ≡ Ok m
  below : exact_size n ((sign_bit + double_size m) / 2 ^ 52 % 2048) ((sign_bit + double_size m) % 2 ^ 52) ≡ Ok m
  bound : double_size m < 2 ^ 63

back : (n m : ℕ) → 0 < m → m < 2 ^ 53 → Back n m
back n m some small =
    let p = parts_of m some small in
    let e = p.exponent in
    let f = p.fraction in
    let few = p.small in
    let rest = p.rest in
    let bits = p.bits_are in
    record {
      above = with_sign_parts n m (double_size m) 0 e f few rest p.digits (omega arith) (omega (arith, bits));
      below = with_sign_parts n m (sign_bit + double_size m) 1 e f few rest p.digits (omega arith) (omega (arith, bits));
      bound = omega (arith, bits);
    }

pub double_fits : (z : ℤ) → IsExact z → double z < 2 ^ 64
unfolding double
double_fits (pos zero) h = omega arith
double_fits (pos (suc n)) h = omega (arith, (back 0 (suc n) (omega arith) h).bound, ap double_size (not_rounded (suc n) (omega arith) h))
double_fits (negsuc n) h = omega (arith, (back 0 (suc n) (omega arith) h).bound, ap double_size (not_rounded (suc n) (omega arith) h))

-- the double of a whole number says it
pub exact_back : (n : ℕ) (z : ℤ) → IsExact z → exact n (double z) ≡ Ok z
unfolding double exact
exact_back n (pos zero) h = refl
exact_back n (pos (suc m)) h =
    let b = back n (suc m) (omega arith) h in
    let d = double_size (suc m) in
    let small = b.bound in
    ap (λ (k : ℕ). exact n (double_size k)) (not_rounded (suc m) (omega arith) h)
    ∙ ap (λ (r : Result ℕ RequestFault). and_then r (λ (size : ℕ). Ok (signed d size))) b.above
    ∙ ap (λ (t : Bool). Ok (cond t (neg_ℤ (pos (suc m))) (pos (suc m)))) (is_not_most sign_bit d small)
exact_back n (negsuc m) h =
    let b = back n (suc m) (omega arith) h in
    let d = sign_bit + double_size (suc m) in
    ap (λ (k : ℕ). exact n (sign_bit + double_size k)) (not_rounded (suc m) (omega arith) h)
    ∙ ap (λ (r : Result ℕ RequestFault). and_then r (λ (size : ℕ). Ok (signed d size))) b.below
    ∙ ap (λ (t : Bool). Ok (cond t (neg_ℤ (pos (suc m))) (pos (suc m)))) (is_most sign_bit d (omega arith))

-- ---- packed lists

packed_length : (xs : List ℕ) → length (flat_map eight xs) ≡ 8 * length xs
unfolding eight
packed_length [] = refl
packed_length (x ∷ xs) =
    let size : length (to_le_bytes w64 x) ≡ 8 = refl in
    omega (arith, length-append (to_le_bytes w64 x) (flat_map eight xs), packed_length xs, size)

unpacked : (xs : List ℕ) → AllByRecursion IsNumber xs → eights (length xs) (flat_map eight xs) ≡ xs
unfolding eight
unpacked [] all = refl
unpacked (x ∷ xs) all =
    let bytes = to_le_bytes w64 x in
    let rest = flat_map eight xs in
    (λ i. from_le_bytes w64 (take_at bytes rest 8 refl i) ∷ eights (length xs) (drop_at bytes rest 8 refl i))
    ∙ (λ i. from_le_bytes-to_le_bytes_8 x all.0 i ∷ unpacked xs all.1 i)

pub packed : (at place : ℕ) (xs : List ℕ) → AllByRecursion IsNumber xs → eights_of at (contents.Block (span place (flat_map eight xs))) ≡ Ok xs
packed at place xs all =
    let bytes = flat_map eight xs in
    let size = packed_length xs in
    let whole : length bytes % 8 ≡ 0 = omega (arith, size) in
    let many : length bytes / 8 ≡ length xs = omega (arith, size) in
    ap (λ (b : Bool). cond b (Ok (eights (length bytes / 8) bytes)) (Err (refused reasons.Malformed at))) (is_equal (length bytes % 8) 0 whole)
    ∙ ap (λ (k : ℕ). Ok (eights k bytes)) many
    ∙ ap (λ (l : List ℕ). Ok l) (unpacked xs all)

pub bounds_packed : (bs : List ℤ) → flat_map (λ z. eight (double z)) bs ≡ flat_map eight (map double bs)
bounds_packed [] = refl
bounds_packed (b ∷ bs) = ap (λ (l : List ℕ). eight (double b) ++ l) (bounds_packed bs)

pub all_doubles : (bs : List ℤ) → AllByRecursion IsExact bs → AllByRecursion IsNumber (map double bs)
all_doubles [] all = _
all_doubles (b ∷ bs) all = (double_fits b all.0, all_doubles bs all.1)
