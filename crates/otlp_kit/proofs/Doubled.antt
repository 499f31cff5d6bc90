-- The digits that a double keeps.
use Rattle.std.proofs.Common.{◌≡◌, ℕ, zero, suc, ◌+◌, ◌-◌, ◌*◌, ◌/◌, ◌%◌, ◌^◌, ◌<◌, ◌≤◌, cond, Bool, true, false, ℤ, pos, ◌≤ℤ◌, ◌<ℤ◌, Fits, refl, sym, ap, subst, ◌∙◌, arith}
use Rattle.std.specs.Prelude.{negsuc, unsigned_abs}
use Rattle.std.specs.Int.{leading_zeros, w64}
use Rattle.std.proofs.Math.Nat.{pow-suc, pow-le-pow_right, le_trans, le_of_eq}
use Rattle.std.proofs.lemmas.Nat.{leading_top, shl_whole, le-div, div_below, pow_pos, one_shl, mul-le}
use Rattle.std.proofs.lemmas.Int.{ints}
use lib.Signed.{lt_z}
use mir.Val.{SFits, of_z, to_z}
use Rattle.otlp_kit.specs.Doubles.{bit_length, unit, goes_up, rounded_by, rounded_size, double_size, sign_bit, double}

pub record Digits (m d : ℕ) : Type 0 where
  pub least : 2 ^ 52 ≤ d
  pub most : d < 2 ^ 53
  pub exact : d ≡ m * 2 ^ 52 / 2 ^ (bit_length m - 1)

pub digits_at : (m j : ℕ) → m < 2 ^ 64 → 2 ^ j ≤ m → m < 2 ^ suc j → bit_length m - 1 ≡ j → Digits m (m * 2 ^ 52 / 2 ^ j)
digits_at m j h lo hi e =
    let some : 0 < 2 ^ j = pow_pos j in
    let twice : 2 ^ suc j ≡ 2 ^ j * 2 = pow-suc 2 j in
    record {
      least = le-div (2 ^ 52) (m * 2 ^ 52) (2 ^ j) some (omega arith);
      most = div_below (m * 2 ^ 52) (2 ^ j) (2 ^ 53) some (omega arith);
      exact = ap (λ (k : ℕ). m * 2 ^ 52 / 2 ^ k) (sym e);
    }

pub digits : (m : ℕ) → 0 < m → m < 2 ^ 64 → Digits m (m * 2 ^ 52 % 2 ^ 128 / 2 ^ (63 - leading_zeros w64 m))
digits m some h =
    let top = leading_top 64 m some h in
    let exponent : 63 - leading_zeros w64 m ≡ top.0 = omega (arith, top.1) in
    let length_less : bit_length m - 1 ≡ top.0 = omega (arith, top.1) in
    let whole : m * 2 ^ 52 % 2 ^ 128 ≡ m * 2 ^ 52 = shl_whole m 64 52 128 h (omega arith) in
    subst (λ (d : ℕ). Digits m d) (sym (ap (λ (n : ℕ). n / 2 ^ (63 - leading_zeros w64 m)) whole ∙ ap (λ (k : ℕ). m * 2 ^ 52 / 2 ^ k) exponent)) (digits_at m top.0 h top.2 top.3 length_less)

pub digits_fit : (d : ℕ) → d < 2 ^ 53 → Fits w64 d
digits_fit d h = omega arith

pub bits_fit : (e d : ℕ) → e ≤ 63 → d < 2 ^ 53 → (e + 1023) * 2 ^ 52 % 2 ^ 64 + (d - 2 ^ 52) < 2 ^ 63
bits_fit e d h k = omega arith

pub value_is : (m e d : ℕ) → e ≡ bit_length m - 1 → e ≤ 63 → d ≡ m * 2 ^ 52 / 2 ^ (bit_length m - 1) → (e + 1023) * 2 ^ 52 % 2 ^ 64 + (d - 2 ^ 52) ≡ double_size m
unfolding double_size
value_is m e d is h k =
    let small : (e + 1023) * 2 ^ 52 % 2 ^ 64 ≡ (e + 1023) * 2 ^ 52 = omega arith in
    ap (λ (n : ℕ). n + (d - 2 ^ 52)) small
    ∙ ap (λ (n : ℕ). (n + 1023) * 2 ^ 52 + (d - 2 ^ 52)) is
    ∙ ap (λ (n : ℕ). (bit_length m - 1 + 1023) * 2 ^ 52 + (n - 2 ^ 52)) k

pub unit_bound : (s : ℕ) → s ≤ 11 → 1 * 2 ^ s % 2 ^ 64 ≤ 2048
unit_bound s h =
    let most : 2 ^ s ≤ 2 ^ 11 = pow-le-pow_right (omega arith) h in
    let whole : 1 * 2 ^ s % 2 ^ 64 ≡ 2 ^ s = one_shl s 64 (omega arith) in
    omega (arith, most, whole)

pub rounds_up : (m u : ℕ) → u ≡ unit m → true ≡ goes_up u (m / u) (m % u) → (m / u + 1) * u ≡ rounded_size m
unfolding rounded_size
rounds_up m u is up =
    ap (λ (b : Bool). cond b (m / u + 1) (m / u) * u) up ∙ ap (λ (v : ℕ). rounded_by v m) is

pub rounds_down : (m u : ℕ) → u ≡ unit m → false ≡ goes_up u (m / u) (m % u) → m / u * u ≡ rounded_size m
unfolding rounded_size
rounds_down m u is down =
    ap (λ (b : Bool). cond b (m / u + 1) (m / u) * u) down ∙ ap (λ (v : ℕ). rounded_by v m) is

unit_least : (m : ℕ) → 0 < m → m < 2 ^ 64 → unit m ≤ m
unit_least m some h =
    let top = leading_top 64 m some h in
    let less : bit_length m - 53 ≤ top.0 = omega (arith, top.1) in
    let power : 2 ^ (bit_length m - 53) ≤ 2 ^ top.0 = pow-le-pow_right (omega arith) less in
    le_trans power top.2

pub some_kept : (m u : ℕ) → u ≡ unit m → 0 < u → m < 2 ^ 64 → 0 < m → 0 < m / u * u
some_kept m u is more h some =
    let least : u ≤ m = le_trans (le_of_eq is) (unit_least m some h) in
    let one_fits : 1 * u ≤ m = omega arith in
    let kept : 1 ≤ m / u = le-div 1 m u more one_fits in
    let product : 1 * 1 ≤ m / u * u = mul-le 1 1 (m / u) u kept more in
    omega (arith, product)

pub zero_of : (z : ℤ) → SFits w64 z → of_z w64 z ≡ 0 → 0 ≡ double z
unfolding double
zero_of (pos n) fits e = sym (ap (λ (m : ℕ). double (pos m)) e)
zero_of (negsuc n) fits e = absurd (omega arith)

pub below_zero : (z : ℤ) → SFits w64 z → lt_z (to_z w64 (of_z w64 z)) (pos 0) ≡ true → z <ℤ pos 0
below_zero z fits e = grind (arith, ints)

pub from_zero : (z : ℤ) → SFits w64 z → lt_z (to_z w64 (of_z w64 z)) (pos 0) ≡ false → pos 0 ≤ℤ z
from_zero z fits e = grind (arith, ints)

pub double_above : (z : ℤ) (r d : ℕ) → (of_z w64 z ≡ 0 → ⊥) → pos 0 ≤ℤ z → r ≡ rounded_size (unsigned_abs z) → d ≡ double_size r → d ≡ double z
unfolding double
double_above (pos zero) r d some h size bits = absurd (some refl)
double_above (pos (suc n)) r d some h size bits = bits ∙ ap double_size size
double_above (negsuc n) r d some h size bits = absurd (omega (arith, ints, h))

pub double_below : (z : ℤ) (r d : ℕ) → z <ℤ pos 0 → r ≡ rounded_size (unsigned_abs z) → d ≡ double_size r → sign_bit + d ≡ double z
unfolding double
double_below (pos n) r d h size bits = absurd (omega (arith, ints, h))
double_below (negsuc n) r d h size bits = ap (λ (t : ℕ). sign_bit + t) (bits ∙ ap double_size size)
