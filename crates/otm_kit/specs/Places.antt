-- The places of ids in a map.
use Rattle.std.specs.Prelude.{◌≡◌, ℕ, nat_eq, List}
use Rattle.std.specs.HashMap.{HashMap, get}
use Rattle.otm_kit.specs.Declarations.{gateway_place}

-- each id at its first place
abbrev pub Knows : {S : Type 0} → List ℕ → HashMap ℕ ℕ S → Type 0
Knows ids places = (id : ℕ) → get nat_eq places id ≡ gateway_place ids id
