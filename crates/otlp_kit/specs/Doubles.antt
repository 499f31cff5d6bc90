-- Doubles of whole numbers, after IEEE 754: binary64, roundTiesToEven.
use Rattle.std.specs.Prelude.{ℕ, zero, suc, ◌+◌, ◌-◌, ◌*◌, ◌/◌, ◌%◌, ◌^◌, ◌==◌, ◌&&◌, ◌||◌, nat_lt, if◌then◌else◌, Bool, ℤ, pos, negsuc, neg_ℤ}
use Rattle.std.specs.Int.{leading_zeros, w64}

-- how many digits a number below 2 ^ 64 has in base 2
abbrev pub bit_length : ℕ → ℕ
bit_length m = 64 - leading_zeros w64 m

-- how much the last of the 53 digits is that a double keeps
abbrev pub unit : ℕ → ℕ
unit m = 2 ^ (bit_length m - 53)

-- whether what is lost is more than half a unit, or half of one above an odd number of them
abbrev pub goes_up : ℕ → ℕ → ℕ → Bool
goes_up u kept lost = nat_lt u (2 * lost) || ((2 * lost == u) && (kept % 2 == 1))

abbrev pub rounded_by : ℕ → ℕ → ℕ
rounded_by u m = (if goes_up u (m / u) (m % u) then m / u + 1 else m / u) * u

-- the nearest number of 53 digits, and of two that are equally near the one whose last digit is even
unfoldable pub rounded_size : ℕ → ℕ
rounded_size m = rounded_by (unit m) m

abbrev pub rounded : ℤ → ℤ
rounded (pos n) = pos (rounded_size n)
rounded (negsuc n) = neg_ℤ (pos (rounded_size (suc n)))

-- the bits of the double of a number of 53 digits that is not 0: its exponent, and its digits behind the first
unfoldable pub double_size : ℕ → ℕ
double_size m = let e = bit_length m - 1 in (e + 1023) * 2 ^ 52 + (m * 2 ^ 52 / 2 ^ e - 2 ^ 52)

abbrev pub sign_bit : ℕ
sign_bit = 2 ^ 63

-- the bits of the double that is nearest to a number of 64 bits
unfoldable pub double : ℤ → ℕ
double (pos zero) = 0
double (pos (suc n)) = double_size (rounded_size (suc n))
double (negsuc n) = sign_bit + double_size (rounded_size (suc n))
