-- Numbers as a hash map keeps them.
use Rattle.std.specs.Prelude.{ℕ}
use Rattle.std.specs.FinMap.{FinMap, from_entries}
use Rattle.std.specs.HashMap.{HashMap}
use Rattle.std.specs.Ordering.{nat_cmp}

-- the numbers of ids that a map keeps
abbrev pub kept_books : {S : Type 0} → HashMap ℕ ℕ S → FinMap nat_cmp ℕ
kept_books m = from_entries m.entries
