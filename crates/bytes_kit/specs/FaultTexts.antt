-- What a fault of decoding prints.
use Rattle.std.specs.Prelude.{ℕ, List, ◌++◌, codes, Option, Some, None}
use Rattle.std.specs.Fmt.{decimal}
use Rattle.bytes_kit.specs.declared.fault.DecodeFault.{DecodeFault}
use Rattle.bytes_kit.specs.declared.fault.DecodeFault.TheVariants as faults

-- a text with the place in it
abbrev pub told_at : List ℕ → ℕ → List ℕ → Option (List ℕ)
told_at front place behind = Some (front ++ decimal place ++ behind)

-- that of a fault of building an export is the fault's own
abbrev pub decode_text : DecodeFault → Option (List ℕ)
decode_text (faults.Truncated place) = told_at (codes "the bytes end at ") place (codes ", too early")
decode_text (faults.BadMagic place) = told_at (codes "byte ") place (codes " is not that of what is read")
decode_text (faults.BadVersion place) = told_at (codes "the version at byte ") place (codes " is not known")
decode_text (faults.NotCanonical place) = told_at (codes "the value at byte ") place (codes " is not in its one form")
decode_text (faults.NotText place) = told_at (codes "the text at byte ") place (codes " is not UTF-8")
decode_text (faults.BadChecksum place) = told_at (codes "the checksum at byte ") place (codes " is not that of the bytes before it")
decode_text (faults.BadExport fault) = None
decode_text faults.NoMemory = Some (codes "no memory")
