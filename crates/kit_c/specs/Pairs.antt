-- Pairs of an instrument and a set, and their numbers.
use Rattle.std.specs.Prelude.{◌≡◌, ℕ, Bool, ◌==◌, ◌&&◌, List, Option, Some, map, position, slice_get}
use Rattle.std.specs.Map.{keys_of, lookup}
use Rattle.agg_kit.specs.Feeding.{set_eq}
use Rattle.attr_kit.specs.declared.attr_set.AttrSet.{AttrSet}
use Rattle.kit_c.specs.contracts.pairs.PairPartialEq.TheImpl as pairs
use Rattle.kit_c.specs.declared.pairs.Pair.{Pair}

abbrev pub pair_eq : Pair → Pair → Bool
pair_eq = (pairs.ghosts).eq

-- pairs in memory, as a tally holds them
abbrev pub held_of : List Pair → List (ℕ × AttrSet)
held_of ps = map (λ p. (p.instrument, p.attrs)) ps

-- whether what is held is this instrument with this set
abbrev pub is_pair : ℕ → AttrSet → ℕ × AttrSet → Bool
is_pair i a h = (i == h.0) && set_eq a h.1

-- the least number under which they are held
abbrev pub number_of : List (ℕ × AttrSet) → ℕ → AttrSet → Option ℕ
number_of hs i a = position (is_pair i a) hs

-- the number that is noted of them
abbrev pub number_in : List (Pair × ℕ) → ℕ → AttrSet → Option ℕ
number_in es i a = lookup (λ p. is_pair i a (p.instrument, p.attrs)) es

-- each number that is noted is that of its pair among those that are held
abbrev pub AreNumbers : List (ℕ × AttrSet) → List (Pair × ℕ) → Type 0
AreNumbers hs es = (j : ℕ) (p : Pair) (n : ℕ) → slice_get es j ≡ Some (p, n) → slice_get hs n ≡ Some (p.instrument, p.attrs)

-- all that is held is noted, in the order of its numbers
abbrev pub AreAll : List (ℕ × AttrSet) → List (Pair × ℕ) → Type 0
AreAll hs es = (held_of (keys_of es) ≡ hs) × AreNumbers hs es
