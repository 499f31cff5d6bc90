-- At how many keys two maps differ.
use Rattle.std.specs.Prelude.{ℕ, Bool, not, ◌+◌, is_none, count_by}
use Rattle.std.specs.Option.{option_eq}
use Rattle.std.specs.declared.cmp.Ordering.{Ordering}
use Rattle.std.specs.FinMap.{FinMap, get, keys}

-- whether two maps differ at a key: only one has it, or each has another value there
abbrev pub differ_at : {K V : Type 0} {R : K → K → Ordering} → (V → V → Bool) → FinMap R V → FinMap R V → K → Bool
differ_at eq m n k = not (option_eq eq (get m k) (get n k))

-- the number of keys at which two maps differ: those of the second that are new or have another value, and those of the first that the second lacks
unfoldable pub changed_keys : {K V : Type 0} {R : K → K → Ordering} → (V → V → Bool) → FinMap R V → FinMap R V → ℕ
changed_keys eq m n = count_by (differ_at eq m n) (keys n) + count_by (λ k. is_none (get n k)) (keys m)
