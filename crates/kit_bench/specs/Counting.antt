-- A counter up to a billion.
use Rattle.std.specs.Prelude.{ℕ, ◌+◌, Option, Some, None, if◌then◌else◌, nat_lt}

-- the count after an addition, where it is not too high
abbrev pub count_after : ℕ → ℕ → Option ℕ
count_after n by = if nat_lt (n + by) 1000000001 then Some (n + by) else None
