-- What a gateway's thread took, of exports that it was told of by their places.
use Rattle.std.specs.Prelude.{◌≡◌, ◌≢◌, ℕ, List, [], map, slice_get, Option, Some, None}
use Rattle.std.specs.FinMap.{get}
use Rattle.gateway_kit.specs.GatewayState.{GatewayState}
use Rattle.point_kit.specs.Exports.{key_of, state}
use Rattle.point_kit.specs.declared.export.Export.{Export}
use Rattle.point_kit.specs.declared.export_point.ExportPoint.{ExportPoint}
use Rattle.rollup_kit.specs.Fleets.{AreAt, AreCovered}
use Rattle.schedule_kit.specs.Members.{In}
use Rattle.fleet_kit.specs.declared.halt.Halt.{Halt}
use Rattle.fleet_kit.specs.declared.halt.Halt.TheVariants.{GateShut, Refused, NoThread, Missing, NoMemory}

-- the gateway took the exports at these places, of which each was told and all that name an export, and holds nothing else
pub record IsServed (exports : List Export) (id : ℕ) (told : List ℕ) (g : GatewayState) : Type 0 where
  pub same_id : g.id ≡ id
  pub took : List ℕ
  pub taken : List Export
  pub at : AreAt exports took taken
  pub holds : g.points ≡ state taken
  pub only : (w : ℕ) → In w took → In w told
  pub all : (w : ℕ) (e : Export) → slice_get exports w ≡ Some e → In w told → In w took

-- a gateway of this id holds all exports, but for such as have no points, and nothing else
pub record IsWhole (exports : List Export) (id : ℕ) (g : GatewayState) : Type 0 where
  pub same_id : g.id ≡ id
  pub took : List ℕ
  pub taken : List Export
  pub at : AreAt exports took taken
  pub holds : g.points ≡ state taken
  pub covered : AreCovered exports took

-- there is one for each id, in order
pub record AreWhole (exports : List Export) (ids : List ℕ) (gs : List GatewayState) : Type 0 where
  pub same_ids : map (λ g. g.id) gs ≡ ids
  pub each : (k : ℕ) (g : GatewayState) → slice_get gs k ≡ Some g → IsWhole exports g.id g

-- the exports are of writers with other identities each
abbrev pub AreOfOthers : List Export → Type 0
AreOfOthers exports = (v w : ℕ) (d e : Export) → slice_get exports v ≡ Some d → slice_get exports w ≡ Some e → d.writer ≡ e.writer → v ≡ w

-- a gateway of this id took some of the exports and holds nothing else, and the export at this place has points, of which it lacks each
pub record Lacks (exports : List Export) (id writer : ℕ) : Type 0 where
  pub told : List ℕ
  pub gateway : GatewayState
  pub served : IsServed exports id told gateway
  pub export : Export
  pub at : slice_get exports writer ≡ Some export
  pub points : export.points ≢ []
  pub missing : (p : ExportPoint) → In p export.points → get gateway.points (key_of export p) ≡ None

-- why the thread of a gateway at this place may stop: it could not be told of this writer, whose points it lacks, or memory was wanting
abbrev pub StopsGateway : List Export → ℕ → ℕ → Option ℕ → Halt → Type 0
StopsGateway exports place id unsent (GateShut job) = ⊥
StopsGateway exports place id unsent (Refused job entry) = ⊥
StopsGateway exports place id unsent NoThread = ⊥
StopsGateway exports place id unsent (Missing gateway writer) = (gateway ≡ place) × (unsent ≡ Some writer) × Lacks exports id writer
StopsGateway exports place id unsent NoMemory = Unit {0}

-- why gateways of these ids may stop
abbrev pub StopsServing : List Export → List ℕ → Halt → Type 0
StopsServing exports ids (GateShut job) = ⊥
StopsServing exports ids (Refused job entry) = ⊥
StopsServing exports ids NoThread = ⊥
StopsServing exports ids (Missing gateway writer) = (id : ℕ) × (slice_get ids gateway ≡ Some id) × Lacks exports id writer
StopsServing exports ids NoMemory = Unit {0}
