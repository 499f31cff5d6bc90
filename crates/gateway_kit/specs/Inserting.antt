-- Values that are put in at places one after the other, and where others stand then.
use Rattle.std.specs.Prelude.{⊤, ◌≡◌, ◌<◌, ◌≤◌, ◌+◌, ℕ, zero, suc, List, [], ◌∷◌, length, slice_index, slice_index_or}
use Rattle.std.specs.List.{insert, remove}
use Rattle.std.specs.declared.cmp.Ordering.{Ordering}
use Rattle.std.specs.declared.cmp.Ordering.TheVariants.{Less, Greater}

module _ {A : Type 0} where
  -- each value put in at its place
  abbrev pub inserted : List A → List ℕ → List A → List A
  inserted xs [] ys = xs
  inserted xs (p ∷ ps) [] = xs
  inserted xs (p ∷ ps) (y ∷ ys) = inserted (insert xs p y) ps ys

  -- those at places taken out, the last one first
  abbrev pub taken_out : List A → List ℕ → List A
  taken_out xs [] = xs
  taken_out xs (p ∷ ps) = remove (taken_out xs ps) p

-- where a place is after one more came to a place
abbrev pub moved_by : ℕ → ℕ → ℕ
moved_by zero place = suc place
moved_by (suc p) zero = zero
moved_by (suc p) (suc place) = suc (moved_by p place)

-- and after all came to theirs
abbrev pub moved_to : List ℕ → ℕ → ℕ
moved_to [] place = place
moved_to (p ∷ ps) place = moved_to ps (moved_by p place)

-- a place that moves, beside what is done there
abbrev pub moving : {C : Type 0} → (ℕ → ℕ) → ℕ × C → ℕ × C
moving f u = (f u.0, u.1)

-- each place is behind those before it
abbrev pub AreSpread : List ℕ → Type 0
AreSpread ps = (j n : ℕ) → j + n < length ps → slice_index ps j + n ≤ slice_index ps (j + n)

module _ {K : Type 0} (R : K → K → Ordering) where
  -- a place parts the keys below a key from those above it
  pub record Parts (ks : List K) (place : ℕ) (q : K) : Type 0 where
    pub within : place ≤ length ks
    pub below : (k : ℕ) (d : K) → k < place → R (slice_index_or ks k d) q ≡ Less
    pub above : (k : ℕ) (d : K) → place ≤ k → k < length ks → R (slice_index_or ks k d) q ≡ Greater

  -- each of some does, where those before it have come
  abbrev pub AllPart : List K → List ℕ → List K → Type 0
  AllPart ks [] [] = ⊤
  AllPart ks [] (q ∷ qs) = ⊥
  AllPart ks (p ∷ ps) [] = ⊥
  AllPart ks (p ∷ ps) (q ∷ qs) = Parts ks p q × AllPart (insert ks p q) ps qs
