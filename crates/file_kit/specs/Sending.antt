-- What files of exports are sent as, and kept as.
use Rattle.std.specs.Prelude.{◌≡◌, ℕ, List, All, map, take, slice_get, Option, Some, None}
use Rattle.std.specs.List.{flat_map}
use Rattle.bytes_kit.specs.Explaining.{Explains}
use Rattle.bytes_kit.specs.Fits.{IsExport}
use Rattle.bytes_kit.specs.Format.{bytes_of}
use Rattle.bytes_kit.specs.Messages.{bytes_of_message}
use Rattle.gossip_kit.specs.Views.{MessageModel}
use Rattle.otlp_kit.specs.Refusals.{otlp_fault}
use Rattle.otlp_kit.specs.Request.{request}
use Rattle.point_kit.specs.Exports.{Points}
use Rattle.point_kit.specs.declared.export.Export.{Export}
use Rattle.file_kit.specs.Contents.{Shows}
use Rattle.file_kit.specs.declared.fault.SendFault.{SendFault}
use Rattle.file_kit.specs.declared.fault.SendFault.TheVariants as faults

-- bytes are those of the requests of the files' exports, one behind the other: one request, as messages of Protocol Buffers are joined
abbrev pub AreRequests : List (List ℕ) → List ℕ → Type 0
AreRequests files bytes = (es : List Export) × All IsExport es × (map bytes_of es ≡ files) × (bytes ≡ flat_map request es)

-- the request of a file's export
abbrev pub IsRequest : List ℕ → List ℕ → Type 0
IsRequest file bytes = (e : Export) × IsExport e × (bytes_of e ≡ file) × (bytes ≡ request e)

-- why an export has no request
abbrev pub IsUnsaid : ℕ → Export → SendFault → Type 0
IsUnsaid at e (faults.Refused place fault) = ⊥
IsUnsaid at e (faults.Unsaid place fault) = (place ≡ at) × (otlp_fault e ≡ Some fault)
IsUnsaid at e faults.NoMemory = Unit {0}

-- why a file has no request
abbrev pub IsUnsentAt : ℕ → List ℕ → SendFault → Type 0
IsUnsentAt at bytes (faults.Refused place fault) = (place ≡ at) × Explains bytes fault × ((e : Export) → IsExport e → bytes ≡ bytes_of e → ⊥)
IsUnsentAt at bytes (faults.Unsaid place fault) = (place ≡ at) × ((e : Export) × IsExport e × (bytes_of e ≡ bytes) × (otlp_fault e ≡ Some fault))
IsUnsentAt at bytes faults.NoMemory = Unit {0}

-- the place of the file that a fault is about
abbrev pub place_of : SendFault → Option ℕ
place_of (faults.Refused place fault) = Some place
place_of (faults.Unsaid place fault) = Some place
place_of faults.NoMemory = None

-- the files before the one at this place have requests
abbrev pub SentBefore : List (List ℕ) → ℕ → Type 0
SentBefore files place = (bytes : List ℕ) × AreRequests (take place files) bytes

-- why files have no request: the first that has none
abbrev pub IsUnsent : List (List ℕ) → SendFault → Type 0
IsUnsent files fault = (place : ℕ) → place_of fault ≡ Some place
    → SentBefore files place × ((bytes : List ℕ) × (slice_get files place ≡ Some bytes) × IsUnsentAt place bytes fault)

-- the message of all points, from the gateway 0 to itself
abbrev pub state_of : Points → MessageModel
state_of points = record { from = 0; to = 0; points = points; delta = None; ack = None }

-- bytes are those of the state that files come to: of what they show
abbrev pub IsState : List (List ℕ) → List ℕ → Type 0
IsState files bytes = (points : Points) × Shows files points × (bytes ≡ bytes_of_message (state_of points))
