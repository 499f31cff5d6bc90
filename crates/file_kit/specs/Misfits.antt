-- Why a file says nothing, in the words of whoever gave it.
use Rattle.std.specs.Prelude.{◌≡◌, ◌++◌, ℕ, List, Option, Some, codes, if◌then◌else◌, nat_eq, take}
use Rattle.std.specs.Fmt.{decimal}
use Rattle.std.specs.List.{starts_with}
use Rattle.bytes_kit.specs.FaultTexts.{decode_text}
use Rattle.bytes_kit.specs.declared.fault.DecodeFault.{DecodeFault}
use Rattle.bytes_kit.specs.declared.fault.DecodeFault.TheVariants as faults
use Rattle.file_kit.specs.Contents.{HasContent}
use Rattle.file_kit.specs.declared.misfit.Misfit.{Misfit}
use Rattle.file_kit.specs.declared.misfit.Misfit.TheVariants as misfits

-- bytes that do not begin as they should, by their first four
unfoldable pub head_misfit : List ℕ → Misfit
head_misfit bytes =
    if starts_with nat_eq bytes (codes "KTSJ") then misfits.Journal
    else if starts_with nat_eq bytes (codes "KTSM") then misfits.Message
    else misfits.Other

-- the bytes before this place are those of a whole export or message, and others stand behind; or it is said as it was found
abbrev pub EndsBefore : List ℕ → ℕ → Misfit → Type 0
EndsBefore bytes place (misfits.Behind at) = (at ≡ place) × HasContent (take place bytes)
EndsBefore bytes place misfit = misfit ≡ misfits.Bytes (faults.NotCanonical place)

-- what is said of bytes that are refused so
abbrev pub IsMisfit : List ℕ → DecodeFault → Misfit → Type 0
IsMisfit bytes (faults.BadMagic place) misfit = misfit ≡ head_misfit bytes
IsMisfit bytes (faults.NotCanonical place) misfit = EndsBefore bytes place misfit
IsMisfit bytes fault misfit = misfit ≡ misfits.Bytes fault

-- the text of it; that of a fault is its own
abbrev pub misfit_text : Misfit → Option (List ℕ)
misfit_text misfits.Journal = Some (codes "this is a journal of kotskhin-gateway: state.ktsm beside it is read here, and has all once the gateway has ended")
misfit_text misfits.Message = Some (codes "this is a message or a state, and no export")
misfit_text misfits.Other = Some (codes "this is no export, message or state")
misfit_text (misfits.Behind place) = Some (codes "something stands behind the export or message, from byte " ++ decimal place ++ codes " on")
misfit_text (misfits.Bytes fault) = decode_text fault
