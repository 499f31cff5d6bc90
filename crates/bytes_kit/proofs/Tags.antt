-- Histograms that are not there.
use Rattle.std.proofs.Common.{ℕ, List, [], ◌∷◌, arith, ap, Some, None}
use Rattle.point_kit.specs.declared.payload.Payload.TheVariants.{Sum, Gauge, Hist}
use Rattle.bytes_kit.specs.Fits.{IsNumber, IsInteger, IsList, IsPair, IsPayload}
use Rattle.bytes_kit.specs.Format.{varint, integer, list_of, pair_of, payload}
use Rattle.bytes_kit.specs.Reading.{NoneAt}

-- the first of a list, 0 of none, and what follows it
unfoldable pub first : List ℕ → ℕ
first [] = 0
first (x ∷ xs) = x

unfoldable pub rest_of : List ℕ → List ℕ
rest_of [] = []
rest_of (x ∷ xs) = xs

pub no_counts : (mid : List ℕ) → NoneAt (pair_of varint (pair_of integer (list_of varint))) (IsPair IsNumber (IsPair IsInteger (IsList IsNumber))) mid → NoneAt payload IsPayload (2 ∷ mid)
unfolding first rest_of
no_counts mid none (Sum n) rest fit e = absurd (omega (arith, ap first e))
no_counts mid none (Gauge n) rest fit e = absurd (omega (arith, ap first e))
no_counts mid none (Hist c m l None) rest fit e = none (c, (m, l)) rest fit (ap rest_of e)
no_counts mid none (Hist c m l (Some r)) rest fit e = absurd (omega (arith, ap first e))

pub no_ranged : (mid : List ℕ) → NoneAt (pair_of varint (pair_of integer (pair_of (list_of varint) (pair_of integer integer)))) (IsPair IsNumber (IsPair IsInteger (IsPair (IsList IsNumber) (IsPair IsInteger IsInteger)))) mid → NoneAt payload IsPayload (3 ∷ mid)
unfolding first rest_of
no_ranged mid none (Sum n) rest fit e = absurd (omega (arith, ap first e))
no_ranged mid none (Gauge n) rest fit e = absurd (omega (arith, ap first e))
no_ranged mid none (Hist c m l None) rest fit e = absurd (omega (arith, ap first e))
no_ranged mid none (Hist c m l (Some r)) rest fit e = none (c, (m, (l, r))) rest fit (ap rest_of e)
