-- Pairs of a set, shown by their places.
use Rattle.std.specs.Prelude.{◌≡◌, ℕ, List, map, slice_get, Some}
use Rattle.std.specs.Option.{option_map}
use Rattle.attr_kit.specs.Attributes.{AreAttributes}
use Rattle.attr_kit.specs.Keeping.{kept}
use Rattle.attr_kit.specs.declared.keep.Keep.TheVariants.{Only}
use Rattle.rollup_kit.specs.Asks.{Attributes}

-- these pairs stand at these places, one after the other
abbrev pub Show : Attributes → List ℕ → Attributes → Type 0
Show pairs places set = map (slice_get pairs) places ≡ map Some set

-- pairs with these keys stand at these places, one after the other
abbrev pub HaveKeys : Attributes → List ℕ → List (List ℕ) → Type 0
HaveKeys pairs places keys = map (λ place. option_map (λ p. p.0) (slice_get pairs place)) places ≡ map Some keys

-- a set that these places show is what an allow-list keeps
abbrev pub ShowKept : List (List ℕ) → Attributes → List ℕ → Type 0
ShowKept keys pairs places = (set : Attributes) → AreAttributes set → Show pairs places set → set ≡ kept (Only keys) pairs
