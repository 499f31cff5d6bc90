-- What a key behind another is known to have.
use Rattle.std.specs.Prelude.{◌≡◌, Option, Some, None}
use Rattle.std.specs.Option.{option_map}
use Rattle.gateway_kit.specs.Walks.{keyed_cell_of_ref}
use Rattle.gateway_kit.specs.declared.points.PointRef.{PointRef}
use Rattle.point_kit.specs.declared.key.Key.{Key}
use Rattle.bytes_kit.specs.Fits.{IsStream, IsSet}
use Rattle.bytes_kit.specs.MessageFits.{IsKey}
use Rattle.bytes_kit.specs.Messages.{common}
use Rattle.bytes_kit.specs.declared.keys.Shared.{Shared}
use Rattle.bytes_kit.specs.declared.keys.Shared.TheVariants as shares

-- every value is one
abbrev pub IsAny : {A : Type 0} → A → Type 0
IsAny a = Unit {0}

-- the key of a lent point
abbrev pub key_at : PointRef → Key
key_at p = (keyed_cell_of_ref p).0

-- the key of the point before, where there is one
abbrev pub key_before : Option PointRef → Option Key
key_before before = option_map key_at before

-- what is shared with the key before is equal
abbrev pub Inherits : Option Key → Shared → Key → Type 0
Inherits before shares.Nothing k = Unit {0}
Inherits (Some j) shares.Incarnation k = (j.writer ≡ k.writer) × (j.start ≡ k.start)
Inherits (Some j) shares.Stream k = (j.writer ≡ k.writer) × ((j.start ≡ k.start) × (j.stream ≡ k.stream))
Inherits None shares.Incarnation k = ⊥
Inherits None shares.Stream k = ⊥

-- what is not shared is of its size
abbrev pub IsKeyRest : Shared → Key → Type 0
IsKeyRest shares.Nothing k = IsKey k
IsKeyRest shares.Incarnation k = IsStream k.stream × IsSet k.attrs
IsKeyRest shares.Stream k = IsSet k.attrs

-- a key that shares this with the one before
abbrev pub IsKeyLike : Option Key → Shared → Key → Type 0
IsKeyLike before s k = IsKey k × (common before k ≡ s)
