-- Adler-32, after RFC 1950, section 8.2.
use Rattle.std.specs.Prelude.{ℕ, ◌+◌, ◌*◌, ◌%◌, List, fold}

-- the greatest prime below 2 ^ 16
abbrev pub modulus : ℕ
modulus = 65521

-- one and the bytes added up, and the sums so far added up
abbrev pub add_byte : ℕ × ℕ → ℕ → ℕ × ℕ
add_byte sums byte = let low = (sums.0 + byte) % modulus in (low, (sums.1 + low) % modulus)

unfoldable pub sums : List ℕ → ℕ × ℕ
sums bytes = fold add_byte (1, 0) bytes

-- both sums as one number of 32 bits, the sum of sums being the higher half
abbrev pub checksum : List ℕ → ℕ
checksum bytes = (sums bytes).1 * 65536 + (sums bytes).0
