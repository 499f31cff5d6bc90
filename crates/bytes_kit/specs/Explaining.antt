-- When which fault comes, and at which place.
use Rattle.std.specs.Prelude.{◌≡◌, ◌≢◌, ℕ, ◌-◌, ◌<◌, ◌≤◌, List, ◌∷◌, ◌++◌, length, take, slice_index, Some}
use Rattle.std.specs.Int.{w32, to_be_bytes}
use Rattle.point_kit.specs.ExportFaults.{export_fault}
use Rattle.point_kit.specs.declared.export_fault.ExportFault.{ExportFault}
use Rattle.bytes_kit.specs.Checksum.{checksum}
use Rattle.bytes_kit.specs.Format.{Fields, fields, head, head_of, bytes_of_fields}
use Rattle.bytes_kit.specs.MessageFits.{carried_fault}
use Rattle.bytes_kit.specs.Messages.{MessageFields, message_fields, bytes_of_message_fields, message_head}
use Rattle.bytes_kit.specs.declared.fault.DecodeFault.{DecodeFault}
use Rattle.bytes_kit.specs.declared.fault.DecodeFault.TheVariants as faults

-- the bytes are those wanted before this place, and have another there
abbrev pub DifferAt : List ℕ → List ℕ → ℕ → Type 0
DifferAt wanted bytes place = (b : ℕ) × (rest : List ℕ) × (bytes ≡ take place wanted ++ b ∷ rest) × (b ≢ slice_index wanted place)

-- a byte comes, and is another
abbrev pub HasOther : ℕ → List ℕ → Type 0
HasOther wanted bytes = (b : ℕ) × (rest : List ℕ) × (bytes ≡ b ∷ rest) × (b ≢ wanted)

-- the byte at this place of the head is another
abbrev pub IsHeadFault : ℕ → ℕ → List ℕ → DecodeFault → Type 0
IsHeadFault letter end bytes (faults.Truncated place) = place ≡ end
IsHeadFault letter end bytes (faults.BadMagic place) = (place < 4) × DifferAt (head_of letter) bytes place
IsHeadFault letter end bytes (faults.BadVersion place) = (place ≡ 4) × DifferAt (head_of letter) bytes place
IsHeadFault letter end bytes (faults.NotCanonical place) = ⊥
IsHeadFault letter end bytes (faults.NotText place) = ⊥
IsHeadFault letter end bytes (faults.BadChecksum place) = ⊥
IsHeadFault letter end bytes (faults.BadExport fault) = ⊥
IsHeadFault letter end bytes faults.NoMemory = ⊥

-- of so many bytes some are missing at the end, or the value at a place is not written so
abbrev pub IsReadFault : ℕ → DecodeFault → Type 0
IsReadFault end (faults.Truncated place) = place ≡ end
IsReadFault end (faults.BadMagic place) = ⊥
IsReadFault end (faults.BadVersion place) = ⊥
IsReadFault end (faults.NotCanonical place) = place ≤ end
IsReadFault end (faults.NotText place) = place ≤ end
IsReadFault end (faults.BadChecksum place) = ⊥
IsReadFault end (faults.BadExport fault) = ⊥
IsReadFault end faults.NoMemory = Unit {0}

-- of the bytes that are left the first four are not those of the sum, or there are others behind
abbrev pub IsSealFault : ℕ → List ℕ → ℕ → DecodeFault → Type 0
IsSealFault end rest sum (faults.Truncated place) = place ≡ end
IsSealFault end rest sum (faults.BadMagic place) = ⊥
IsSealFault end rest sum (faults.BadVersion place) = ⊥
IsSealFault end rest sum (faults.NotCanonical place) = place ≤ end
IsSealFault end rest sum (faults.NotText place) = ⊥
IsSealFault end rest sum (faults.BadChecksum place) = (place ≡ end - length rest) × (take 4 rest ≢ to_be_bytes w32 sum)
IsSealFault end rest sum (faults.BadExport fault) = ⊥
IsSealFault end rest sum faults.NoMemory = ⊥

-- the bytes begin with head and fields up to this place, and go on with another checksum
abbrev pub HasOtherSeal : {A : Type 0} → (A → List ℕ) → List ℕ → ℕ → Type 0
HasOtherSeal {A} front bytes place = (p : A) × (rest : List ℕ) × (bytes ≡ front p ++ rest) × (place ≡ length (front p)) × (take 4 rest ≢ to_be_bytes w32 (checksum (front p)))

-- the bytes are those of fields that make no export
abbrev pub MakesNone : List ℕ → ExportFault → Type 0
MakesNone bytes fault = (p : Fields) × (bytes ≡ bytes_of_fields p) × (export_fault p.1.0 p.1.1.0 p.1.1.1 ≡ Some fault)

-- what a fault says of bytes of which no head and fields are read
abbrev pub IsFieldsFault : {A : Type 0} → List ℕ → (A → List ℕ) → List ℕ → DecodeFault → Type 0
IsFieldsFault front code bytes (faults.Truncated place) = place ≡ length bytes
IsFieldsFault front code bytes (faults.BadMagic place) = (place < 4) × DifferAt front bytes place
IsFieldsFault front code bytes (faults.BadVersion place) = (place ≡ 4) × DifferAt front bytes place
IsFieldsFault front code bytes (faults.NotCanonical place) = place ≤ length bytes
IsFieldsFault front code bytes (faults.NotText place) = place ≤ length bytes
IsFieldsFault front code bytes (faults.BadChecksum place) = HasOtherSeal (λ p. front ++ code p) bytes place
IsFieldsFault front code bytes (faults.BadExport fault) = ⊥
IsFieldsFault front code bytes faults.NoMemory = Unit {0}

-- what a fault of decoding an export says of the bytes
abbrev pub Explains : List ℕ → DecodeFault → Type 0
Explains bytes (faults.BadExport fault) = MakesNone bytes fault
Explains bytes fault = IsFieldsFault head fields bytes fault

-- the bytes are those of a message with a cell that no export brings
abbrev pub MakesNoMessage : List ℕ → ExportFault → Type 0
MakesNoMessage bytes fault = (s : MessageFields) × (bytes ≡ bytes_of_message_fields s) × (carried_fault s.2 ≡ Some fault)

-- what a fault of decoding a message says of the bytes
abbrev pub ExplainsMessage : List ℕ → DecodeFault → Type 0
ExplainsMessage bytes (faults.BadExport fault) = MakesNoMessage bytes fault
ExplainsMessage bytes fault = IsFieldsFault message_head message_fields bytes fault
