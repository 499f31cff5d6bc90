-- What refusals and faults print.
use Rattle.std.specs.Prelude.{ℕ, List, ◌++◌, codes}
use Rattle.std.specs.Fmt.{decimal}
use Rattle.world_kit.specs.declared.event.Refusal.{Refusal}
use Rattle.world_kit.specs.declared.event.Refusal.TheVariants as refusal
use Rattle.world_kit.specs.declared.fault.SetupFault.{SetupFault}
use Rattle.world_kit.specs.declared.fault.SetupFault.TheVariants as setup

-- the name of a refusal, with its number in parentheses where it has one
abbrev pub refusal_text : Refusal → List ℕ
refusal_text refusal.NoWriter = codes "NoWriter"
refusal_text refusal.NoGateway = codes "NoGateway"
refusal_text refusal.NoExport = codes "NoExport"
refusal_text refusal.NoMail = codes "NoMail"
refusal_text refusal.Closed = codes "Closed"
refusal_text refusal.NoInstrument = codes "NoInstrument"
refusal_text refusal.Negative = codes "Negative"
refusal_text (refusal.Overflow stream) = codes "Overflow(" ++ decimal stream ++ codes ")"
refusal_text (refusal.TimeNotAfter last) = codes "TimeNotAfter(" ++ decimal last ++ codes ")"
refusal_text (refusal.StartNotAfter start) = codes "StartNotAfter(" ++ decimal start ++ codes ")"
refusal_text refusal.NotAddressed = codes "NotAddressed"

-- the same of a setup's fault
abbrev pub setup_text : SetupFault → List ℕ
setup_text (setup.SameGateway first second) = codes "SameGateway(" ++ decimal first ++ codes ", " ++ decimal second ++ codes ")"
setup_text setup.NoMemory = codes "NoMemory"
