-- What a gateway of a world holds of each writer, where no two writers share an identity.
use Rattle.std.specs.Prelude.{◌≡◌, ℕ, ◌<◌, length, slice_get, Some}
use Rattle.std.specs.FinMap.{get}
use Rattle.gossip_kit.specs.Views.{NodeModel}
use Rattle.point_kit.specs.declared.key.Key.{Key}
use Rattle.rollup_kit.specs.Naming.{Name, key_at}
use Rattle.rollup_kit.specs.Writers as writers
use Rattle.schedule_kit.specs.Deeds.Holder.{AtGateway}
use Rattle.schedule_kit.specs.Rounds.{HasNoConflict, part_at}
use Rattle.schedule_kit.specs.Taken.{taken_collections, newest}
use Rattle.world_kit.specs.declared.setup.Setup.{Setup}
use Rattle.world_kit.specs.WorldState.{WorldState}
use Rattle.world_kit.specs.Judged.{Deeds}
use Rattle.world_kit.specs.Recording.{rounding}
use Rattle.world_kit.specs.Setups.{writer_at, starts_of, writers_of}

-- no two writers of a setup share an identity
abbrev pub AreTold : Setup → Type 0
AreTold s = writers.AreTold (writers_of s)

-- no conflict stands at a gateway
abbrev pub HoldsNoConflict : WorldState → Type 0
HoldsNoConflict w = (g : ℕ) (n : NodeModel) → slice_get w.nodes g ≡ Some n → (k : Key) → HasNoConflict (get n.gateway.points k)

-- of each incarnation a gateway holds the points of the newest collection that it took, or nothing
abbrev pub HoldsNewest : Setup → Deeds → WorldState → Type 0
HoldsNewest s ds w = (g : ℕ) (n : NodeModel) → slice_get w.nodes g ≡ Some n → (v start : ℕ) → v < length s.writers → (x : Name)
    → get n.gateway.points (key_at (writer_at s v).id start x) ≡ part_at (rounding s) (newest (taken_collections (starts_of s) ds (AtGateway g)) v start) x
