-- Which messages there are, and which cells are sound.
use Rattle.std.specs.Prelude.{◌≡◌, ℕ, nat_le, ◌<◌, ◌^◌, ◌+◌, ◌==◌, ◌&&◌, not, true, ℤ, pos, int_lt, List, [], ◌∷◌, length, sum, if◌then◌else◌, Option, Some, None, Result, Ok, Err}
use Rattle.std.specs.List.{AllByRecursion}
use Rattle.std.specs.Option.{option_or}
use Rattle.std.specs.FinMap.{get, empty}
use Rattle.std.specs.FinMap.Entries.{is_sorted}
use Rattle.attr_kit.specs.Refusing.{first, when}
use Rattle.gossip_kit.specs.Views.{MessageModel}
use Rattle.point_kit.specs.Exports.{Points}
use Rattle.point_kit.specs.Orders.{key_cmp}
use Rattle.point_kit.specs.Payload.{IsSoundHeld, wrong_range_of}
use Rattle.point_kit.specs.declared.cell.Cell.{Cell}
use Rattle.point_kit.specs.declared.cell.Held.{Held}
use Rattle.point_kit.specs.declared.cell.Held.TheVariants.{One, Conflict}
use Rattle.point_kit.specs.declared.export_fault.ExportFault.{ExportFault}
use Rattle.point_kit.specs.declared.export_fault.ExportFault.TheVariants as builds
use Rattle.point_kit.specs.declared.key.Key.{Key}
use Rattle.point_kit.specs.declared.payload.Payload.{Payload}
use Rattle.point_kit.specs.declared.payload.Payload.TheVariants as payloads
use Rattle.point_kit.specs.declared.shape.Shape.{Shape}
use Rattle.point_kit.specs.declared.shape.Shape.TheVariants as shapes
use Rattle.bytes_kit.specs.Fits.{IsNumber, IsWriter, IsStream, IsSet, IsPayload}
use Rattle.bytes_kit.specs.Messages.{Entry, MessageFields, fields_of_message}
use Rattle.bytes_kit.specs.declared.carried.Carried.{Carried}
use Rattle.bytes_kit.specs.declared.carried.Carried.TheVariants as bodies
use Rattle.bytes_kit.specs.declared.fault.DecodeFault.{DecodeFault}
use Rattle.bytes_kit.specs.declared.fault.DecodeFault.TheVariants as faults

-- a number of 32 bits
abbrev pub IsId : ℕ → Type 0
IsId n = n < 2 ^ 32

abbrev pub IsKey : Key → Type 0
IsKey k = IsWriter k.writer × (IsNumber k.start × (IsStream k.stream × IsSet k.attrs))

abbrev pub IsHeld : Held Payload → Type 0
IsHeld (One p) = IsPayload p
IsHeld Conflict = Unit {0}

abbrev pub IsCell : Cell Payload → Type 0
IsCell c = IsNumber c.time × IsHeld c.held

abbrev pub IsEntry : Entry → Type 0
IsEntry e = IsKey e.0 × IsCell e.1

-- as many as a number can say
abbrev pub IsListed : List Entry → Type 0
IsListed es = IsNumber (length es) × AllByRecursion IsEntry es

-- and their keys rise
abbrev pub IsCells : List Entry → Type 0
IsCells es = IsListed es × (is_sorted key_cmp es ≡ true)

abbrev pub IsCarried : Carried → Type 0
IsCarried (bodies.Whole es) = IsCells es
IsCarried (bodies.Delta number es) = IsNumber number × IsCells es
IsCarried (bodies.Ack number) = IsNumber number

abbrev pub IsMessageFields : MessageFields → Type 0
IsMessageFields s = IsId s.0 × (IsId s.1 × IsCarried s.2)

-- an Ack carries no cells and is no delta
abbrev pub IsOneOf : Points → Option ℕ → Option ℕ → Type 0
IsOneOf points delta (Some number) = (points ≡ empty) × (delta ≡ None)
IsOneOf points delta None = Unit {0}

-- what every message is
abbrev pub IsMessage : MessageModel → Type 0
IsMessage m = IsMessageFields (fields_of_message m) × IsOneOf m.points m.delta m.ack

-- a cell that an export, or several, can bring: its time is after the start, and its payload is one of its stream's shape
abbrev pub IsSoundEntry : Entry → Type 0
IsSoundEntry e = (e.0.start < e.1.time) × IsSoundHeld e.0.stream.shape e.1.held

-- each cell is one that an export can bring
abbrev pub IsSoundPoints : Points → Type 0
IsSoundPoints points = (k : Key) (c : Cell Payload) → get points k ≡ Some c → IsSoundEntry (k, c)

-- why no histogram of these bounds has these values
abbrev pub histogram_fault : ℕ → List ℤ → ℕ → ℤ → List ℕ → Option (ℤ × ℤ) → Option ExportFault
histogram_fault place bounds count total buckets range = first
    (when (not (length buckets == length bounds + 1)) (builds.BucketCount place)
    ∷ when (not (sum buckets == count)) (builds.CountMismatch place)
    ∷ when (int_lt total (pos 0)) (builds.NegativeTotal place)
    ∷ when (wrong_range_of count range) (builds.BadRange place)
    ∷ [])

-- why no export has a payload of this shape at a place: as `Export::build` says, in its order
abbrev pub payload_fault : ℕ → Shape → Payload → Option ExportFault
payload_fault place (shapes.Sum monotonic) (payloads.Sum n) = when (monotonic && int_lt n (pos 0)) (builds.NegativeTotal place)
payload_fault place shapes.Gauge (payloads.Gauge n) = None
payload_fault place (shapes.Histogram bounds) (payloads.Hist count total buckets range) = histogram_fault place bounds count total buckets range
payload_fault place shape p = Some (builds.WrongShape place)

abbrev pub held_fault : ℕ → Shape → Held Payload → Option ExportFault
held_fault place shape (One p) = payload_fault place shape p
held_fault place shape Conflict = None

-- why no export brings the cell at a place
abbrev pub cell_fault : ℕ → Entry → Option ExportFault
cell_fault place e = if nat_le e.1.time e.0.start then Some builds.TimeNotAfterStart else held_fault place e.0.stream.shape e.1.held

-- the same of the first cell of which there is a reason, the cells being counted from a place on
abbrev pub cells_fault : ℕ → List Entry → Option ExportFault
cells_fault place [] = None
cells_fault place (e ∷ es) = option_or (cell_fault place e) (cells_fault (place + 1) es)

abbrev pub carried_fault : Carried → Option ExportFault
carried_fault (bodies.Whole es) = cells_fault 0 es
carried_fault (bodies.Delta number es) = cells_fault 0 es
carried_fault (bodies.Ack number) = None

-- the message, or want of memory
abbrev pub GivesMessage : Result MessageModel DecodeFault → MessageModel → Type 0
GivesMessage (Ok found) m = found ≡ m
GivesMessage (Err fault) m = fault ≡ faults.NoMemory
