-- Changes made to entries at their places.
use Rattle.std.specs.Prelude.{ℕ, zero, suc, List, [], ◌∷◌}

module _ {K V C : Type 0} (made : V → C → V) where
  -- the value at a place as a change makes it; past the end nothing
  abbrev pub with_change : List (K × V) → ℕ → C → List (K × V)
  with_change [] place change = []
  with_change (e ∷ es) zero change = (e.0, made e.1 change) ∷ es
  with_change (e ∷ es) (suc place) change = e ∷ with_change es place change

  -- one change after the other
  abbrev pub with_changes : List (K × V) → List (ℕ × C) → List (K × V)
  with_changes es [] = es
  with_changes es (u ∷ us) = with_changes (with_change es u.0 u.1) us
