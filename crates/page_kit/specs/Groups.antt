-- Values by their keys.
use Rattle.std.specs.Prelude.{List, [], ◌∷◌, ◌++◌, map, fold}
use Rattle.std.specs.List.{flat_map}
use Rattle.std.specs.Ordering.{match_ordering}
use Rattle.std.specs.declared.cmp.Ordering.{Ordering}

-- values with their keys
abbrev pub keyed : {K A : Type 0} → (A → K) → List A → List (K × A)
keyed key xs = map (λ x. (key x, x)) xs

module _ {K A : Type 0} (R : K → K → Ordering) where
  -- the groups with one more value: behind the others of its key, or in a group of its own, at the key's place in the order
  abbrev pub put : List (K × List A) → K × A → List (K × List A)
  put [] e = (e.0, e.1 ∷ []) ∷ []
  put (g ∷ gs) e = match_ordering (R e.0 g.0) ((e.0, e.1 ∷ []) ∷ g ∷ gs) ((g.0, g.1 ++ e.1 ∷ []) ∷ gs) (g ∷ put gs e)

  -- values by their keys: a group for each key, in the order of keys, with its values in the order in which they stand
  unfoldable pub groups : List (K × A) → List (K × List A)
  groups es = fold put [] es

  -- values in the order of their keys; those of one key stay in the order in which they stand
  unfoldable pub in_order : List (K × A) → List A
  in_order es = flat_map (λ g. g.1) (groups es)
