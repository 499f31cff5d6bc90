-- What calls make of gateways, and what these answer to exports.
use Rattle.std.specs.Prelude.{◌≡◌, ℕ, Bool, true, false, List, [], ◌∷◌, is_none, Option, Some, None}
use Rattle.std.specs.FinMap.{FinMap}
use Rattle.std.specs.Ordering.{nat_cmp}
use Rattle.archive_kit.specs.Keeping.{is_named, kept_points, taking}
use Rattle.archive_kit.specs.Stepping.{JoinsAndDrops, JoinsOrSkips}
use Rattle.archive_kit.specs.declared.taking.Taking.{Taking}
use Rattle.archive_kit.specs.declared.taking.Taking.TheVariants as takings
use Rattle.attr_kit.specs.Refusing.{when}
use Rattle.bytes_kit.specs.Messages.{bytes_of_message}
use Rattle.gateway_kit.specs.GatewayState.{GatewayState}
use Rattle.gateway_kit.specs.Queries.{newest_time}
use Rattle.gossip_kit.specs.Views.{MessageModel, NodeModel}
use Rattle.point_kit.specs.Exports.{Points, changed_points, join_points, state}
use Rattle.point_kit.specs.declared.export.Export.{Export}
use Rattle.point_kit.specs.declared.writer_id.WriterId.{WriterId}
use Rattle.kit_c.specs.Writers.{instance_of}
use Rattle.kit_c.specs.declared.fault.Fault.{Fault}
use Rattle.kit_c.specs.declared.fault.Fault.TheVariants as faults

-- the identity of a service's instance
abbrev pub identity_of : List ℕ → ℕ → ℕ → WriterId
identity_of service high low = record { service = service; instance = instance_of high low }

-- a gateway holds nothing of an incarnation of a writer
abbrev pub newest_fault : WriterId → ℕ → GatewayState → Option Fault
newest_fault writer start g = when (is_none (newest_time writer start g.points)) faults.NoPoint

-- a gateway joined points and forgot what is then named, and has these books of what was acknowledged
pub record Joins (came : Points) (books : FinMap nat_cmp ℕ) (old new : NodeModel) : Type 0 where
  pub id : new.gateway.id ≡ old.gateway.id
  pub points : new.gateway.points ≡ kept_points old.gateway.points came
  pub steps : JoinsAndDrops came books old new

-- the same of an export, of which it may leave out all where it hides all
pub record Takes (came : Points) (books : FinMap nat_cmp ℕ) (old new : NodeModel) : Type 0 where
  pub id : new.gateway.id ≡ old.gateway.id
  pub points : new.gateway.points ≡ kept_points old.gateway.points came
  pub steps : JoinsOrSkips came books old new

-- a gateway took an export: it is then the third
abbrev pub HasTaken : Option NodeModel → Option Export → Option NodeModel → Type 0
HasTaken (Some n) (Some e) (Some after) = Takes (state (e ∷ [])) n.acked n after
HasTaken m other after = ⊥

-- or merged another gateway
abbrev pub HasMerged : Option NodeModel → Option GatewayState → Option NodeModel → Type 0
HasMerged (Some n) (Some g) (Some after) = Joins g.points n.acked n after
HasMerged m other after = ⊥

-- how many keys points change that come
abbrev pub changed_by : NodeModel → Points → ℕ
changed_by n came = changed_points n.gateway.points (join_points n.gateway.points came)

-- or the message of these bytes, which changed so many keys
abbrev pub HasJoined : List ℕ → ℕ → Option NodeModel → Option NodeModel → Type 0
HasJoined bytes keys (Some n) (Some after) =
    (m : MessageModel) × (bytes_of_message m ≡ bytes) × (keys ≡ changed_by n m.points) × Joins m.points n.acked n after
HasJoined bytes keys m after = ⊥

-- what a gateway answers to an export
abbrev pub taking_of : NodeModel → Export → Taking
taking_of n e = taking (is_named n.gateway.points e.writer e.start) (changed_by n (state (e ∷ [])))

-- how many keys changed, and whether the export is late
abbrev pub keys_told : Taking → ℕ
keys_told (takings.Taken keys) = keys
keys_told takings.Stale = 0
keys_told takings.Late = 0

abbrev pub is_late : Taking → Bool
is_late (takings.Taken keys) = false
is_late takings.Stale = false
is_late takings.Late = true

-- the message of all that a gateway holds, from it to itself
abbrev pub whole_of : GatewayState → MessageModel
whole_of g = record { from = g.id; to = g.id; points = g.points; delta = None; ack = None }
