-- Exports and messages as bytes.
use Rattle.std.specs.Prelude.{◌≡◌, ℕ, List, Option, Some, None}
use Rattle.bytes_kit.specs.Explaining.{Explains, ExplainsMessage}
use Rattle.bytes_kit.specs.Fits.{IsExport}
use Rattle.bytes_kit.specs.Format.{bytes_of}
use Rattle.bytes_kit.specs.MessageFits.{IsMessage, IsSoundPoints}
use Rattle.bytes_kit.specs.Messages.{bytes_of_message}
use Rattle.gossip_kit.specs.Views.{MessageModel}
use Rattle.point_kit.specs.declared.export.Export.{Export}
use Rattle.kit_c.specs.declared.fault.Fault.{Fault}
use Rattle.kit_c.specs.declared.fault.Fault.TheVariants as faults

-- a handle has the export of these bytes: there is one of any bytes at most
abbrev pub IsReadFrom : List ℕ → Option Export → Type 0
IsReadFrom bytes (Some e) = bytes_of e ≡ bytes
IsReadFrom bytes None = ⊥

-- why bytes are no export
abbrev pub IsDecodeFault : List ℕ → Fault → Type 0
IsDecodeFault bytes (faults.Decode f) = Explains bytes f
IsDecodeFault bytes other = ⊥

-- a handle has the message of these bytes, whose cells are such as exports bring
abbrev pub IsMessageOf : List ℕ → Option MessageModel → Type 0
IsMessageOf bytes (Some m) = (bytes_of_message m ≡ bytes) × IsSoundPoints m.points
IsMessageOf bytes None = ⊥

-- why bytes are no message
abbrev pub IsMessageFault : List ℕ → Fault → Type 0
IsMessageFault bytes (faults.Decode f) = ExplainsMessage bytes f
IsMessageFault bytes other = ⊥

-- a handle has an export, or a message, whose numbers are of the sizes that its bytes have: what reading them asks for
abbrev pub HasExportForm : Option Export → Type 0
HasExportForm (Some e) = IsExport e
HasExportForm None = ⊥

abbrev pub HasMessageForm : Option MessageModel → Type 0
HasMessageForm (Some m) = IsMessage m
HasMessageForm None = ⊥
