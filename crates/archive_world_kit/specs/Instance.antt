-- A history with an adoption that meets all that the laws ask, and the two nodes that stand in it.
use Rattle.std.specs.Prelude.{◌≡◌, ℕ, ℤ, pos, true, List, [], ◌∷◌, None, codes}
use Rattle.std.specs.FinMap.{empty}
use Rattle.std.specs.Int.{to_be_bytes, w128}
use Rattle.archive_kit.specs.Archive.{adopt_fault, adopted, exported_points, fresh}
use Rattle.archive_world_kit.specs.Adopted.{Archives, adopted_by}
use Rattle.archive_world_kit.specs.Answers.{AreLast, Feeds, HasProperBounds}
use Rattle.archive_world_kit.specs.Steps.{History, HasIdentities, HasSoundRounds, held_by}
use Rattle.gateway_kit.specs.Keys.{ItemKey}
use Rattle.gateway_kit.specs.Queries.{incarnation_points}
use Rattle.gossip_kit.specs.Gossip.{first_node}
use Rattle.gossip_kit.specs.Views.{NodeModel}
use Rattle.point_kit.specs.Exports.{Points}
use Rattle.point_kit.specs.declared.export.Export.{Export}
use Rattle.point_kit.specs.declared.export_point.ExportPoint.{ExportPoint}
use Rattle.point_kit.specs.declared.payload.Payload.TheVariants as payloads
use Rattle.point_kit.specs.declared.shape.Shape.TheVariants as shapes
use Rattle.point_kit.specs.declared.stream.Stream.{Stream}
use Rattle.point_kit.specs.declared.writer_id.WriterId.{WriterId}

-- identities of one service
abbrev pub identity : ℕ → WriterId
identity instance = record { service = codes "shop"; instance = to_be_bytes w128 instance }

-- the counter that a worker has, and its one point
abbrev pub counter : Stream
counter = record { scope = codes "app"; name = codes "requests"; unit = codes "1"; shape = shapes.Sum true }

abbrev pub counted_point : ℕ → ExportPoint
counted_point total = record { stream = counter; attrs = []; payload = payloads.Sum (pos total) }

-- what a worker exports that recorded a value
pub record IsWorked (worker : WriterId) (total : ℕ) (e : Export) : Type 0 where
  pub writer : e.writer ≡ worker
  pub start : e.start ≡ 100
  pub time : e.time ≡ 200
  pub points : e.points ≡ counted_point total ∷ []

-- a node without points
abbrev pub begun : ℕ → NodeModel
begun id = first_node (record { id = id; points = empty; numbers = empty })

-- what an archive exports that adopted a worker, of which these points are held
pub record IsArchived (worker archive : WriterId) (held : Points) (e : Export) : Type 0 where
  pub accepted : adopt_fault (fresh archive 100 10) worker 100 (incarnation_points worker 100 held) ≡ None
  pub writer : e.writer ≡ archive
  pub start : e.start ≡ 100
  pub time : e.time ≡ 300
  pub points : e.points ≡ exported_points (adopted (fresh archive 100 10) worker 100 (incarnation_points worker 100 held))

-- All that the laws of rows and pages ask holds of one history. The first of its nodes heard of no archive. The second did, and there the
-- worker is adopted, with the value that it recorded.
pub record MeetAll (total : ℕ) (plain keeper : NodeModel) : Type 0 where
  pub h : History ℤ
  pub sound : HasSoundRounds h
  pub identities : HasIdentities h
  pub archives : Archives h
  pub fed : ℕ → List ℤ → List (ItemKey × ℤ)
  pub feeds : Feeds archives fed
  pub proper : HasProperBounds archives
  pub last : ℕ × ℕ → List ℤ
  pub last_plain : AreLast archives 0 last
  pub last_kept : AreLast archives 1 last
  pub plain_is : held_by h 0 ≡ plain.gateway.points
  pub keeper_is : held_by h 1 ≡ keeper.gateway.points
  pub none : adopted_by archives 0 ≡ []
  pub adopted : adopted_by archives 1 ≡ ((0, 100), pos total ∷ []) ∷ []
