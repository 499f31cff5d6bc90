-- The pieces of a message, after "Encoding" of the documentation of Protocol Buffers.
use Rattle.std.specs.Prelude.{ℕ, zero, suc, ◌+◌, ◌*◌, ◌/◌, ◌%◌, ◌==◌, nat_lt, if◌then◌else◌, List, [], ◌∷◌, ◌++◌, length}
use Rattle.std.specs.Int.{to_le_bytes, w64}

-- a number in groups of seven bits, the lowest first, of which at most so many have their top bit set
abbrev pub groups : ℕ → ℕ → List ℕ
groups zero n = n ∷ []
groups (suc more) n = if nat_lt n 128 then n ∷ [] else (n % 128 + 128) ∷ groups more (n / 128)

-- Base 128 varint, the shortest: no number has as many groups as its size
unfoldable pub varint : ℕ → List ℕ
varint n = groups n n

-- the number of a field, and how its value is written: 0 as a varint, 1 in eight bytes, 2 as a length and bytes
abbrev pub tag : ℕ → ℕ → List ℕ
tag field wire = varint (8 * field + wire)

-- a field of a text, a message or packed numbers
unfoldable pub block : ℕ → List ℕ → List ℕ
block field bytes = tag field 2 ++ (varint (length bytes) ++ bytes)

-- a field of a number
unfoldable pub number : ℕ → ℕ → List ℕ
number field n = tag field 0 ++ varint n

-- the lowest 64 bits of a number, the lowest byte first
unfoldable pub eight : ℕ → List ℕ
eight n = to_le_bytes w64 n

-- a field of a fixed64, an sfixed64 or a double
unfoldable pub fixed : ℕ → ℕ → List ℕ
fixed field n = tag field 1 ++ eight n

-- the same of fields that are left out where they have their default
unfoldable pub text_unless_empty : ℕ → List ℕ → List ℕ
text_unless_empty field bytes = if length bytes == 0 then [] else block field bytes

unfoldable pub fixed_unless_zero : ℕ → ℕ → List ℕ
fixed_unless_zero field n = if n == 0 then [] else fixed field n
