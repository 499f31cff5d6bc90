-- Which numbers a number of groups has room for.
use Rattle.std.specs.Prelude.{ℕ, zero, suc, ◌*◌}

-- one bit behind so many groups of seven
abbrev pub limit : ℕ → ℕ
limit zero = 2
limit (suc more) = 128 * limit more
