-- What an archive has of the incarnations that it adopted: for each stream and set their payloads added up.
use Rattle.std.specs.Prelude.{ℕ, ◌+◌, ◌^◌, ◌+ℤ◌, Bool, true, false, ◌&&◌, if◌then◌else◌, nat_lt, List, [], ◌∷◌}
use Rattle.std.specs.Prelude.{ℤ, pos, negsuc}
use Rattle.point_kit.specs.ExportFaults.{same_key}
use Rattle.point_kit.specs.declared.export_point.ExportPoint.{ExportPoint}
use Rattle.point_kit.specs.declared.payload.Payload.{Payload}
use Rattle.point_kit.specs.declared.payload.Payload.TheVariants.{Sum, Gauge, Hist}
use Rattle.archive_kit.specs.Adding.{add_payloads}

-- whether a sum is one of 64 bits, and a count
abbrev pub sum_fits : ℤ → Bool
sum_fits (pos n) = nat_lt n (2 ^ 63)
sum_fits (negsuc n) = nat_lt n (2 ^ 63)

abbrev pub count_fits : ℕ → Bool
count_fits n = nat_lt n (2 ^ 64)

-- whether each bucket of both can be counted, there being as many
abbrev pub buckets_fit : List ℕ → List ℕ → Bool
buckets_fit [] [] = true
buckets_fit [] (y ∷ ys) = false
buckets_fit (x ∷ xs) [] = false
buckets_fit (x ∷ xs) (y ∷ ys) = count_fits (x + y) && buckets_fit xs ys

-- whether two payloads of one shape stay in range added up
abbrev pub fit_together : Payload → Payload → Bool
fit_together (Sum a) (Sum b) = sum_fits (a +ℤ b)
fit_together (Hist c s l r) (Hist d t m q) = count_fits (c + d) && (sum_fits (s +ℤ t) && buckets_fit l m)
fit_together p q = false

-- gauges are not adopted
abbrev pub is_gauge : Payload → Bool
is_gauge (Gauge v) = true
is_gauge (Sum a) = false
is_gauge (Hist c s l r) = false

-- a total with a payload added
abbrev pub plus_payload : ExportPoint → Payload → ExportPoint
plus_payload q p = record q { payload = add_payloads q.payload p }

-- the totals with a point added: to the one of its stream and set, and where there is none it comes last
abbrev pub add_total : List ExportPoint → ExportPoint → List ExportPoint
add_total [] p = p ∷ []
add_total (q ∷ qs) p = if same_key p q then plus_payload q p.payload ∷ qs else q ∷ add_total qs p

-- whether that stays in range
abbrev pub fits_total : List ExportPoint → ExportPoint → Bool
fits_total [] p = true
fits_total (q ∷ qs) p = if same_key p q then fit_together q.payload p.payload else fits_total qs p

-- the totals with points added, but for gauges
abbrev pub add_totals : List ExportPoint → List ExportPoint → List ExportPoint
add_totals qs [] = qs
add_totals qs (p ∷ ps) = if is_gauge p.payload then add_totals qs ps else add_totals (add_total qs p) ps

-- whether each stays in range, added to what those before it made
abbrev pub fit_totals : List ExportPoint → List ExportPoint → Bool
fit_totals qs [] = true
fit_totals qs (p ∷ ps) = if is_gauge p.payload then fit_totals qs ps else (fits_total qs p && fit_totals (add_total qs p) ps)
