-- Two payloads of one stream added up, as an archive does.
use Rattle.std.specs.Prelude.{ℕ, ℤ, ◌+◌, ◌+ℤ◌, ◌==◌, if◌then◌else◌, List, [], ◌∷◌, Option, Some, None}
use Rattle.std.specs.Int.{int_min, int_max}
use Rattle.point_kit.specs.declared.payload.Payload.{Payload}
use Rattle.point_kit.specs.declared.payload.Payload.TheVariants.{Sum, Gauge, Hist}

-- count by count
abbrev pub add_buckets : List ℕ → List ℕ → List ℕ
add_buckets [] ys = ys
add_buckets (x ∷ xs) [] = x ∷ xs
add_buckets (x ∷ xs) (y ∷ ys) = (x + y) ∷ add_buckets xs ys

-- from the least to the greatest of the values of both: unknown where one that has values does not tell its own
abbrev pub both_ranges : Option (ℤ × ℤ) → Option (ℤ × ℤ) → Option (ℤ × ℤ)
both_ranges (Some r) (Some q) = Some (int_min r.0 q.0, int_max r.1 q.1)
both_ranges (Some r) None = None
both_ranges None q = None

abbrev pub joined_range : ℕ → Option (ℤ × ℤ) → ℕ → Option (ℤ × ℤ) → Option (ℤ × ℤ)
joined_range c r d q = if d == 0 then (if c == 0 then None else r) else if c == 0 then q else both_ranges r q

-- sums and histograms part by part; a gauge adds nothing. Payloads of one stream are of one shape: what two of different shapes come
-- to does not matter
abbrev pub add_payloads : Payload → Payload → Payload
add_payloads (Sum a) (Sum b) = Sum (a +ℤ b)
add_payloads (Sum a) (Gauge v) = Sum a
add_payloads (Sum a) (Hist d t m q) = Hist d (a +ℤ t) m q
add_payloads (Gauge v) q = q
add_payloads (Hist c s l r) (Sum b) = Hist c (s +ℤ b) l r
add_payloads (Hist c s l r) (Gauge v) = Hist c s l r
add_payloads (Hist c s l r) (Hist d t m q) = Hist (c + d) (s +ℤ t) (add_buckets l m) (joined_range c r d q)
