-- Whole numbers of doubles, after IEEE 754: binary64.
use Rattle.std.specs.Prelude.{ℕ, ℤ, pos, neg_ℤ, ◌+◌, ◌-◌, ◌/◌, ◌%◌, ◌^◌, ◌==◌, ◌&&◌, ◌||◌, nat_lt, nat_le, if◌then◌else◌, Result, Ok, Err}
use Rattle.otlp_kit.specs.Doubles.{sign_bit}
use Rattle.otlp_kit.specs.Fields.{and_then, refused}
use Rattle.otlp_kit.specs.declared.request_fault.RequestFault.{RequestFault}
use Rattle.otlp_kit.specs.declared.request_fault.RequestReason.TheVariants as reasons

-- of a size, by its exponent and the 52 digits behind the first: the digits are a whole number of what 1 is in their last place
abbrev pub exact_size : ℕ → ℕ → ℕ → Result ℕ RequestFault
exact_size n exponent fraction =
    if (exponent == 0) && (fraction == 0) then Ok 0
    else if nat_lt exponent 1023 || (exponent == 2047) then Err (refused reasons.NotWhole n)
    else if nat_lt 1075 exponent then Err (refused reasons.Inexact n)
    else if (2 ^ 52 + fraction) % 2 ^ (1075 - exponent) == 0 then Ok ((2 ^ 52 + fraction) / 2 ^ (1075 - exponent))
    else Err (refused reasons.NotWhole n)

abbrev pub signed : ℕ → ℕ → ℤ
signed bits size = if nat_le sign_bit bits then neg_ℤ (pos size) else pos size

-- the whole number below 2 ^ 53 in size that a double of point n is
unfoldable pub exact : ℕ → ℕ → Result ℤ RequestFault
exact n bits = and_then (exact_size n (bits / 2 ^ 52 % 2048) (bits % 2 ^ 52)) (λ size. Ok (signed bits size))
